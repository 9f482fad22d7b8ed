-- Runs of a RAM cell by picks, and the law that the cell's meaning allows them.
use Rattle.std.specs.Prelude.{◌≡◌, ℕ, suc, true, List, map, Some, slice_get}
use Rattle.lib_core.specs.declared.library.Variant.{Variant}
use Rattle.net_core.specs.declared.bits.Edge.{Edge}
use Rattle.net_core.specs.declared.bits.Event.{Event}
use Rattle.net_core.specs.declared.rams.RamCell.{RamCell}
use Rattle.net_core.specs.Values.{Wave}
use Rattle.net_core.specs.Ports.{happening_of}
use Rattle.net_core.specs.Shape.{fits_variant}
use Rattle.net_core.specs.Ram.{Slot, slots_of, RamAllows}
use Rattle.ram_step.specs.declared.picks.PickKey.{PickKey}
use Rattle.ram_step.specs.States.{RamLook, start_of, stepped, shown_bit}

-- states one after the other, and a wave that shows what they show
pub record PickedRun (x : Variant) (cell : RamCell) (key : ℕ → PickKey) (events : List Event) (v : Wave) : Type 0 where
  pub state : ℕ → RamLook
  pub starts : state 0 ≡ start_of x cell (key 0)
  pub steps : (t : ℕ) (e : Event) → slice_get events t ≡ Some e → state (suc t) ≡ stepped (state t) cell (v t) e (key t)
  pub shows : (t : ℕ) (e : Event) → slice_get events t ≡ Some e → (i : ℕ) (s : Slot) → slice_get (slots_of x cell) i ≡ Some s → (k net : ℕ) → slice_get s.pins.out k ≡ Some net → v t net ≡ shown_bit (state t) (v t) (key t) s k

-- each edge is that of an input
abbrev pub EdgesAreInputs : List ℕ → List Event → Type 0
EdgesAreInputs inputs events =
    (t : ℕ) (event : Event) → slice_get events t ≡ Some event → (e : Edge) → event.edge ≡ Some e → (place : ℕ) × (slice_get inputs place ≡ Some e.net)

-- The law: a run by picks, whatever the keys, is one that the cell allows.
abbrev pub PickedRunIsAllowed : Type 0
PickedRunIsAllowed =
    (inputs : List ℕ) (x : Variant) (cell : RamCell) (key : ℕ → PickKey) (events : List Event) (v : Wave) → fits_variant cell (Some x) ≡ true → EdgesAreInputs inputs events → PickedRun x cell key events v → RamAllows inputs x cell (map (happening_of inputs) events) v
