-- A rewriting of one memory of a module, in one record: each step from the collected design to the netlist has it, and two steps
-- make one.
use Rattle.std.specs.Prelude.{◌≡◌, ℕ, ◌+◌, ◌≤◌, false, List, [], ◌++◌, Some, slice_get, set, length}
use Rattle.std.specs.List.{sum_by}
use Rattle.lib_core.specs.declared.library.Library.{Library}
use Rattle.net_core.specs.declared.cells.Comb.{Comb}
use Rattle.net_core.specs.declared.cells.Reg.{Reg}
use Rattle.net_core.specs.declared.bits.Clock.{Clock}
use Rattle.net_core.specs.declared.mems.Mem.{Mem}
use Rattle.net_core.specs.declared.modules.Module.{Module}
use Rattle.net_core.specs.Nodes.{Ordered}
use Rattle.net_core.specs.Ports.{Interface}
use Rattle.net_core.specs.Simulation.{Simulates}
use Rattle.net_core.specs.Valid.{IsValid, silent_nodes}
use Rattle.net_edit.specs.Laws.{IsKnownClock}
use Rattle.rewriting.specs.Keeping.{Lost, KeepsPorts}
use Rattle.rewriting.specs.Known.{IsGuarded, QuietAt}

-- so many more nets, and so many more bits of registers
pub record Room : Type 0 where
  pub nets : ℕ
  pub bits : ℕ

abbrev pub both_rooms : Room → Room → Room
both_rooms a b = record { nets = a.nets + b.nets; bits = a.bits + b.bits }

-- how many bits the registers of a module have, and how many nets its logic cells drive
abbrev pub register_bits : Module → ℕ
register_bits m = sum_by (λ (r : Reg). length r.q) m.regs

abbrev pub logic_nets : Module → ℕ
logic_nets m = sum_by (λ (c : Comb). length c.y) m.combs

-- The module has become larger by no more than this. No more nodes show nothing than before.
pub record GrowsBy (room : Room) (old new : Module) : Type 0 where
  pub nets : new.nets ≤ old.nets + room.nets
  pub bits : register_bits new ≤ register_bits old + room.bits
  pub logic : logic_nets new ≤ logic_nets old + room.nets
  pub silent : silent_nodes new ≤ silent_nodes old

-- All that is no memory stands as it did, with more nets, logic cells and registers behind the others. No clock is new.
pub record StandsAround (old new : Module) : Type 0 where
  pub more_combs : List Comb
  pub more_regs : List Reg
  pub combs : new.combs ≡ old.combs ++ more_combs
  pub regs : new.regs ≡ old.regs ++ more_regs
  pub clocks : (c : Clock) → IsKnownClock new c → IsKnownClock old c
  pub nets : old.nets ≤ new.nets
  pub name : new.name ≡ old.name
  pub attrs : new.attrs ≡ old.attrs
  pub wires : new.wires ≡ old.wires
  pub declared : new.declared ≡ old.declared
  pub parts : new.parts ≡ old.parts
  pub rams : new.rams ≡ old.rams
  pub carried : new.carried ≡ old.carried

-- Memory k, which was x in the old module, is y in the new one, and all other memories stand as they did. What y is says an equation
-- beside this record: so it says what has not changed too. Each run of the new module is one of the old, with the same wave.
pub record Rewrites (lib : Library) (modules : List Interface) (k : ℕ) (x y : Mem) (lost : Lost) (room : Room) (old new : Module) : Type 0 where
  pub was : slice_get old.mems k ≡ Some x
  pub is : new.mems ≡ set old.mems k y
  pub kept : KeepsPorts lost x y
  pub around : StandsAround old new
  pub size : GrowsBy room old new
  pub simulates : Simulates lib modules [] old new
  pub ordered : Ordered old → Ordered new
  pub valid : IsValid lib modules old → IsValid lib modules new
  pub guarded : lost.guard ≡ false → IsGuarded lib old x → IsGuarded lib new y
  pub quiet : (j l : ℕ) → lost.quiet j l ≡ false → QuietAt lib old x j l → QuietAt lib new y j l
