-- Working off places one after the other: the nets of each get what its node shows on the values so far.
use Rattle.std.specs.Prelude.{◌≡◌, ℕ, ◌<◌, Bool, List, [], ◌∷◌, Some, slice_get}
use Rattle.lib_core.specs.declared.library.Library.{Library}
use Rattle.lib_core.specs.Picks.{picked}
use Rattle.net_core.specs.declared.bits.Event.{Event}
use Rattle.net_core.specs.declared.cells.Comb.{Comb}
use Rattle.net_core.specs.declared.cells.Reg.{Reg}
use Rattle.net_core.specs.declared.mems.Mem.{Mem}
use Rattle.net_core.specs.declared.mems.RdPort.{RdPort}
use Rattle.net_core.specs.declared.rams.RamCell.{RamCell}
use Rattle.net_core.specs.declared.modules.Module.{Module}
use Rattle.net_core.specs.Values.{Valuation}
use Rattle.net_core.specs.Logic.{comb_shows}
use Rattle.net_core.specs.Nodes.{Node, Drives}
use Rattle.net_core.specs.Ports.{inputs_of}
use Rattle.net_core.specs.Ram.{Slot, slots_of}
use Rattle.net_core.specs.Runs.{variant_of}
use Rattle.ram_step.specs.States.{RamLook, shown_bit}
use Rattle.sim_cells.specs.Choices.{taken}
use Rattle.sim_cells.specs.Registers.{reg_shown}
use Rattle.sim_cells.specs.Memories.{MemLook, read_shown}
use Rattle.picked_run.specs.Settled.{IsFree}
use Rattle.picked_run.specs.States.{SimLook, comb_number, reg_number, mem_number, ram_number, key_of}
use Rattle.sim_settle.specs.declared.places.NodePlace.{NodePlace}
use Rattle.sim_settle.specs.declared.places.NodePlace.TheVariants as place
use Rattle.sim_settle.specs.Places.{node_at}

-- The node at a place shows a bit at a place of its outputs, under a valuation.
abbrev pub PlaceSays : Module → ℕ → ℕ → SimLook → NodePlace → Valuation → ℕ → Bool → Type 0
PlaceSays m seed t s (place.Comb i) v k b = (c : Comb) → slice_get m.combs i ≡ Some c → b ≡ taken (key_of seed t (comb_number i)) k (comb_shows c v k)
PlaceSays m seed t s (place.Reg i) v k b = (r : Reg) (kept : List Bool) → slice_get m.regs i ≡ Some r → slice_get s.regs i ≡ Some kept → b ≡ reg_shown r v (key_of seed t (reg_number m i)) kept k
PlaceSays m seed t s (place.Read i j) v k b = (x : Mem) (a : MemLook) (r : RdPort) → slice_get m.mems i ≡ Some x → slice_get s.mems i ≡ Some a → slice_get x.reads j ≡ Some r → b ≡ read_shown a x v (key_of seed t (mem_number m i)) j r k
PlaceSays m seed t s (place.Slot i j) v k b = (c : RamCell) (a : RamLook) (slot : Slot) → slice_get m.rams i ≡ Some c → slice_get s.rams i ≡ Some (Some a) → slice_get (slots_of a.variant c) j ≡ Some slot → b ≡ shown_bit a v (key_of seed t (ram_number m i)) slot k

-- one place is worked off
pub record PlaceSteps (m : Module) (seed t : ℕ) (s : SimLook) (at : NodePlace) (v w : Valuation) : Type 0 where
  pub shows : (p : Node) → node_at m at ≡ Some p → (k n : ℕ) → slice_get p.drives k ≡ Some n → PlaceSays m seed t s at v k (w n)
  pub keeps : (p : Node) → node_at m at ≡ Some p → (n : ℕ) → (Drives p n → ⊥) → w n ≡ v n

-- a list of places is worked off
abbrev pub Worked : Module → ℕ → ℕ → SimLook → List NodePlace → Valuation → Valuation → Type 0
Worked m seed t s [] v w = v ≡ w
Worked m seed t s (at ∷ rest) v w = (u : Valuation) × PlaceSteps m seed t s at v u × Worked m seed t s rest u w

-- the values before: the inputs have theirs, and the nets that nothing drives their picks
pub record Begins (m : Module) (seed t : ℕ) (e : Event) (v : Valuation) : Type 0 where
  pub free : (n : ℕ) → n < m.nets → IsFree m n → v n ≡ picked seed t 0 n
  pub inputs : (k n : ℕ) (b : Bool) → slice_get (inputs_of m) k ≡ Some n → slice_get e.values k ≡ Some b → v n ≡ b

-- each RAM cell that keeps something keeps it in the form of its variant
abbrev pub VariantsAgree : Library → Module → SimLook → Type 0
VariantsAgree lib m s = (i : ℕ) (c : RamCell) (a : RamLook) → slice_get m.rams i ≡ Some c → slice_get s.rams i ≡ Some (Some a) → variant_of lib c ≡ Some a.variant
