-- What drives a net.
use Rattle.std.specs.Prelude.{◌≡◌, ℕ, Some, slice_get}
use Rattle.net_core.specs.declared.cells.Comb.{Comb}
use Rattle.net_core.specs.declared.cells.Reg.{Reg}
use Rattle.net_core.specs.declared.mems.Mem.{Mem}
use Rattle.net_core.specs.declared.mems.RdPort.{RdPort}
use Rattle.net_core.specs.declared.rams.RamCell.{RamCell}
use Rattle.net_core.specs.declared.rams.SlotUse.{SlotUse}
use Rattle.net_core.specs.declared.modules.Module.{Module}
use Rattle.net_core.specs.Ports.{inputs_of}

-- nothing, or a place: of the inputs, of a logic cell, a register, a read port of a memory, a slot of a RAM cell
pub data Driver : Type 0 where
  Free : Driver
  Input : (k : ℕ) → Driver
  CombOut : (i k : ℕ) → Driver
  RegOut : (i k : ℕ) → Driver
  ReadOut : (i j k : ℕ) → Driver
  SlotOut : (i j k : ℕ) → Driver

-- Each net has at most one driver: a table tells, for each place that drives a net, that this place drives it.
pub record HasOneDriver (m : Module) : Type 0 where
  pub driver : ℕ → Driver
  pub inputs : (k n : ℕ) → slice_get (inputs_of m) k ≡ Some n → driver n ≡ Input k
  pub combs : (i : ℕ) (c : Comb) → slice_get m.combs i ≡ Some c → (k n : ℕ) → slice_get c.y k ≡ Some n → driver n ≡ CombOut i k
  pub regs : (i : ℕ) (r : Reg) → slice_get m.regs i ≡ Some r → (k n : ℕ) → slice_get r.q k ≡ Some n → driver n ≡ RegOut i k
  pub reads : (i : ℕ) (x : Mem) → slice_get m.mems i ≡ Some x → (j : ℕ) (r : RdPort) → slice_get x.reads j ≡ Some r → (k n : ℕ) → slice_get r.out k ≡ Some n → driver n ≡ ReadOut i j k
  pub slots : (i : ℕ) (c : RamCell) → slice_get m.rams i ≡ Some c → (j : ℕ) (s : SlotUse) → slice_get c.slots j ≡ Some s → (k n : ℕ) → slice_get s.out k ≡ Some n → driver n ≡ SlotOut i j k
