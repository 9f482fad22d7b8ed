-- Values that begin as they have to are settled once all places are worked off in an order.
use Rattle.std.proofs.Common.{◌≡◌, ℕ, List, Some, sym, ap, ◌∙◌}
use Rattle.std.specs.Prelude.{slice_get, option_map, option_and_then}
use Rattle.std.proofs.lemmas.Option.{same_Some}
use Rattle.lib_core.specs.declared.library.Library.{Library}
use Rattle.net_core.specs.declared.bits.Event.{Event}
use Rattle.net_core.specs.declared.mems.Mem.{Mem}
use Rattle.net_core.specs.declared.rams.RamCell.{RamCell}
use Rattle.net_core.specs.declared.modules.Module.{Module}
use Rattle.net_core.specs.Values.{Valuation}
use Rattle.net_core.specs.Drivers.{HasOneDriver}
use Rattle.net_core.specs.Nodes.{Node, comb_node, reg_node, read_node, slot_node, Drives}
use Rattle.net_core.specs.Ports.{inputs_of}
use Rattle.net_core.specs.Ram.{slots_of}
use Rattle.net_core.specs.Runs.{ReadsAgree}
use Rattle.net_core.proofs.Settle.{pins_at}
use Rattle.picked_run.specs.Settled.{IsSettled, IsFree}
use Rattle.picked_run.specs.States.{SimLook}
use Rattle.sim_settle.specs.declared.places.NodePlace.{NodePlace}
use Rattle.sim_settle.specs.declared.places.NodePlace.TheVariants as place
use Rattle.sim_settle.specs.Places.{node_at, IsPlaceOrder}
use Rattle.sim_settle.specs.Working.{Worked, Begins, VariantsAgree}
use Rattle.sim_settle.proofs.Placing.{node_stands}
use Rattle.sim_settle.proofs.Workings.{driver_is, never_input, all_say, others_kept}

-- a free net is driven by no place, and neither is an input
pub free_apart : (m : Module) (n : ℕ) → IsFree m n → (at : NodePlace) (p : Node) → node_at m at ≡ Some p → Drives p n → ⊥
free_apart m n free at p h drives = let w = node_stands m at p h in free.nodes w.0 p w.1 drives

input_apart : (m : Module) → HasOneDriver m → (k n : ℕ) → slice_get (inputs_of m) k ≡ Some n → (at : NodePlace) (p : Node) → node_at m at ≡ Some p → Drives p n → ⊥
input_apart m d k n input at p h (l, drives) = never_input at l k (sym (driver_is m d at p h l n drives) ∙ d.inputs k n input)

pub settles : (lib : Library) (m : Module) → HasOneDriver m → ReadsAgree lib m → (seed t : ℕ) (e : Event) (s : SimLook) → VariantsAgree lib m s → (work : List NodePlace) → IsPlaceOrder m work → (first w : Valuation) → Begins m seed t e first → Worked m seed t s work first w → IsSettled lib m seed t e s w
settles lib m d reads seed t e s variants work o first w begins worked =
    let say = all_say lib m d reads seed t s variants work o first w worked in
    let kept = others_kept lib m d reads seed t s variants work o first w worked in
    record {
      free = λ n lt free. kept n (free_apart m n free) ∙ begins.free n lt free;
      inputs = λ k n b hk hb. kept n (input_apart m d k n hk) ∙ begins.inputs k n b hk hb;
      combs = λ i c found k n hk. say (place.Comb i) (comb_node c) (ap (option_map comb_node) found) k n hk c found;
      regs = λ i r held found has k n hk. say (place.Reg i) (reg_node r) (ap (option_map reg_node) found) k n hk r held found has;
      reads = λ i x a found has port r read k n hk.
          say (place.Read i port) (read_node r) (ap (option_and_then (λ (y : Mem). option_map read_node (slice_get y.reads port))) found ∙ ap (option_map read_node) read) k n hk x a r found has read;
      slots = λ i c x a found fits has j slot there k n hk.
          let pins = pins_at x c j slot there in
          let same : x ≡ a.variant = same_Some x a.variant (sym fits ∙ variants i c a found has) in
          say (place.Slot i j) (slot_node slot.pins) (ap (option_and_then (λ (y : RamCell). option_map slot_node (slice_get y.slots j))) found ∙ ap (option_map slot_node) pins) k n hk c a slot found has (ap (λ y. slice_get (slots_of y c) j) (sym same) ∙ there);
    }
