-- The values of the nets at an event, each free choice picked: the inputs have their values, every cell shows what its state
-- and its pins give, and a net that nothing drives has its pick.
use Rattle.std.specs.Prelude.{◌≡◌, ℕ, ◌<◌, Bool, List, Some, slice_get}
use Rattle.lib_core.specs.declared.library.Library.{Library}
use Rattle.lib_core.specs.declared.library.Variant.{Variant}
use Rattle.lib_core.specs.Picks.{picked}
use Rattle.net_core.specs.declared.bits.Event.{Event}
use Rattle.net_core.specs.declared.cells.Comb.{Comb}
use Rattle.net_core.specs.declared.cells.Reg.{Reg}
use Rattle.net_core.specs.declared.mems.Mem.{Mem}
use Rattle.net_core.specs.declared.mems.RdPort.{RdPort}
use Rattle.net_core.specs.declared.rams.RamCell.{RamCell}
use Rattle.net_core.specs.declared.modules.Module.{Module}
use Rattle.net_core.specs.Values.{Valuation}
use Rattle.net_core.specs.Logic.{comb_shows}
use Rattle.net_core.specs.Nodes.{Node, nodes_of, Drives}
use Rattle.net_core.specs.Ports.{inputs_of}
use Rattle.net_core.specs.Ram.{Slot, slots_of}
use Rattle.net_core.specs.Runs.{variant_of}
use Rattle.ram_step.specs.States.{RamLook, shown_bit}
use Rattle.sim_cells.specs.Choices.{taken}
use Rattle.sim_cells.specs.Registers.{reg_shown}
use Rattle.sim_cells.specs.Memories.{MemLook, read_shown}
use Rattle.picked_run.specs.States.{SimLook, comb_number, reg_number, mem_number, ram_number, key_of}

-- no input and no node drives the net
pub record IsFree (m : Module) (n : ℕ) : Type 0 where
  pub inputs : (k : ℕ) → slice_get (inputs_of m) k ≡ Some n → ⊥
  pub nodes : (i : ℕ) (p : Node) → slice_get (nodes_of m) i ≡ Some p → Drives p n → ⊥

pub record IsSettled (lib : Library) (m : Module) (seed t : ℕ) (e : Event) (s : SimLook) (v : Valuation) : Type 0 where
  pub free : (n : ℕ) → n < m.nets → IsFree m n → v n ≡ picked seed t 0 n
  pub inputs : (k n : ℕ) (b : Bool) → slice_get (inputs_of m) k ≡ Some n → slice_get e.values k ≡ Some b → v n ≡ b
  pub combs : (i : ℕ) (c : Comb) → slice_get m.combs i ≡ Some c → (k n : ℕ) → slice_get c.y k ≡ Some n → v n ≡ taken (key_of seed t (comb_number i)) k (comb_shows c v k)
  pub regs : (i : ℕ) (r : Reg) (kept : List Bool) → slice_get m.regs i ≡ Some r → slice_get s.regs i ≡ Some kept → (k n : ℕ) → slice_get r.q k ≡ Some n → v n ≡ reg_shown r v (key_of seed t (reg_number m i)) kept k
  pub reads : (i : ℕ) (x : Mem) (a : MemLook) → slice_get m.mems i ≡ Some x → slice_get s.mems i ≡ Some a → (port : ℕ) (r : RdPort) → slice_get x.reads port ≡ Some r → (k n : ℕ) → slice_get r.out k ≡ Some n → v n ≡ read_shown a x v (key_of seed t (mem_number m i)) port r k
  pub slots : (i : ℕ) (c : RamCell) (x : Variant) (a : RamLook) → slice_get m.rams i ≡ Some c → variant_of lib c ≡ Some x → slice_get s.rams i ≡ Some (Some a) → (j : ℕ) (slot : Slot) → slice_get (slots_of x c) j ≡ Some slot → (k n : ℕ) → slice_get slot.pins.out k ≡ Some n → v n ≡ shown_bit a v (key_of seed t (ram_number m i)) slot k
