-- When what is kept is that of a module's cells.
use Rattle.std.specs.Prelude.{◌≡◌, ℕ, ◌+◌, ◌^◌, ◌<◌, List, length, Option, Some, slice_get}
use Rattle.lib_core.specs.declared.library.Library.{Library}
use Rattle.lib_core.specs.declared.library.Variant.{Variant}
use Rattle.net_core.specs.declared.rams.RamCell.{RamCell}
use Rattle.net_core.specs.declared.modules.Module.{Module}
use Rattle.net_core.specs.Runs.{variant_of}
use Rattle.net_core.specs.Valid.{Each, MemFits}
use Rattle.ram_step.specs.States.{RamLook}
use Rattle.picked_run.specs.States.{SimLook}
use Rattle.sim_state.specs.Cells.{AreStates, IsKept, IsKeptByMem, IsKeptByRam}

-- few enough cells that numbers of 64 bits name them
abbrev pub HasFewCells : Module → Type 0
HasFewCells m = 1 + length m.combs + length m.regs + length m.mems + length m.rams < 2 ^ 40

-- a state of the module's cells
pub record IsStateOfCells (m : Module) (s : SimLook) : Type 0 where
  pub regs : AreStates IsKept m.regs s.regs
  pub mems : AreStates IsKeptByMem m.mems s.mems
  pub rams : AreStates IsKeptByRam m.rams s.rams
  pub fit : Each m.mems MemFits
  pub few : HasFewCells m

-- each cell whose variant the library has keeps a state of this variant
abbrev pub HaveVariants : Library → List RamCell → List (Option RamLook) → Type 0
HaveVariants lib cells states =
    (i : ℕ) (c : RamCell) (x : Variant) → slice_get cells i ≡ Some c → variant_of lib c ≡ Some x → (a : RamLook) × (slice_get states i ≡ Some (Some a)) × (a.variant ≡ x)

-- a state of the module's cells under the library
pub record IsSimState (lib : Library) (m : Module) (s : SimLook) : Type 0 where
  pub cells : IsStateOfCells m s
  pub variants : HaveVariants lib m.rams s.rams
