-- What all cells of one kind keep: at the start, and after an event. The cells have numbers that follow each other.
use Rattle.std.specs.Prelude.{◌≡◌, ℕ, ◌+◌, Bool, List, length, Option, Some, slice_get}
use Rattle.lib_core.specs.declared.library.Library.{Library}
use Rattle.net_core.specs.declared.bits.Event.{Event}
use Rattle.net_core.specs.declared.cells.Reg.{Reg}
use Rattle.net_core.specs.declared.mems.Mem.{Mem}
use Rattle.net_core.specs.declared.rams.RamCell.{RamCell}
use Rattle.net_core.specs.Values.{Valuation}
use Rattle.net_core.specs.Runs.{variant_of}
use Rattle.geom_core.specs.Places.{IsSized}
use Rattle.ram_step.specs.declared.picks.PickKey.{PickKey}
use Rattle.ram_step.specs.States.{RamLook, IsStateOf, start_of, stepped}
use Rattle.sim_cells.specs.Registers.{reg_start, reg_stepped}
use Rattle.sim_cells.specs.Memories.{MemLook, IsMemState, mem_start, mem_stepped}
use Rattle.picked_run.specs.States.{key_of, on_some}

abbrev pub reg_begins : ℕ → ℕ → ℕ → Reg → List Bool
reg_begins first seed i r = reg_start r (key_of seed 0 (first + i))

abbrev pub reg_goes : ℕ → ℕ → ℕ → Event → Valuation → ℕ → Reg → List Bool → List Bool
reg_goes first seed t e v i r kept = reg_stepped r v e (key_of seed t (first + i)) kept

abbrev pub mem_begins : ℕ → ℕ → ℕ → Mem → MemLook
mem_begins first seed i x = mem_start x (key_of seed 0 (first + i))

abbrev pub mem_goes : ℕ → ℕ → ℕ → Event → Valuation → ℕ → Mem → MemLook → MemLook
mem_goes first seed t e v i x a = mem_stepped a x v e (key_of seed t (first + i))

-- nothing for a cell that has no variant
abbrev pub ram_starts : Library → RamCell → PickKey → Option RamLook
ram_starts lib c key = on_some (λ x. start_of x c key) (variant_of lib c)

abbrev pub ram_steps : RamCell → Valuation → Event → PickKey → Option RamLook → Option RamLook
ram_steps c v e key o = on_some (λ a. stepped a c v e key) o

abbrev pub ram_begins : Library → ℕ → ℕ → ℕ → RamCell → Option RamLook
ram_begins lib first seed i c = ram_starts lib c (key_of seed 0 (first + i))

abbrev pub ram_goes : ℕ → ℕ → ℕ → Event → Valuation → ℕ → RamCell → Option RamLook → Option RamLook
ram_goes first seed t e v i c o = ram_steps c v e (key_of seed t (first + i)) o

-- one state for each cell, each of them one of its cell
pub record AreStates {X S : Type 0} (P : X → S → Type 0) (xs : List X) (states : List S) : Type 0 where
  pub count : length states ≡ length xs
  pub each : (i : ℕ) (x : X) (s : S) → slice_get xs i ≡ Some x → slice_get states i ≡ Some s → P x s

-- one bit for each bit of Q
abbrev pub IsKept : Reg → List Bool → Type 0
IsKept r kept = length kept ≡ length r.q

abbrev pub IsKeptByMem : Mem → MemLook → Type 0
IsKeptByMem x a = IsMemState a x

-- a state of the cell, of a variant within the limits, or nothing
pub record IsKeptByRam (c : RamCell) (o : Option RamLook) : Type 0 where
  pub state : (a : RamLook) → o ≡ Some a → IsStateOf a c
  pub sized : (a : RamLook) → o ≡ Some a → IsSized a.variant
