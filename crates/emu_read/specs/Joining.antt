-- What a module keeps that gets more nets, or a cell behind the others.
use Rattle.std.specs.Prelude.{◌≡◌, ℕ, ◌+◌, ◌^◌, ◌<◌, ◌≤◌, List, length, Some, slice_get, set}
use Rattle.lib_core.specs.declared.library.Library.{Library}
use Rattle.net_core.specs.declared.bits.Bit.{Bit}
use Rattle.net_core.specs.declared.bits.Clock.{Clock}
use Rattle.net_core.specs.declared.cells.Comb.{Comb}
use Rattle.net_core.specs.declared.cells.Reg.{Reg}
use Rattle.net_core.specs.declared.mems.Mem.{Mem}
use Rattle.net_core.specs.declared.mems.RdPort.{RdPort}
use Rattle.net_core.specs.declared.modules.Module.{Module}
use Rattle.net_core.specs.Nodes.{HasNet}
use Rattle.net_core.specs.Pins.{comb_bits, reg_bits, read_bits}
use Rattle.net_core.specs.Ports.{Interface, inout_bits}
use Rattle.net_core.specs.Valid.{AreApart, CombFits, RegFits, ReadFits, cell_names, IsValid}
use Rattle.net_edit.specs.Edits.{with_nets, with_comb, with_reg}
use Rattle.net_edit.specs.Laws.{IsUndriven, IsKnownClock}
use Rattle.rewriting.specs.Reads.{with_read, IsRead}

-- The net is one of the module, and stands among no inout bits.
pub record IsInside (modules : List Interface) (m : Module) (n : ℕ) : Type 0 where
  pub below : n < m.nets
  pub apart : HasNet (inout_bits modules m) n → ⊥

-- Nets that a new cell may drive: nothing drives them, and none stands twice.
pub record AreFreeNets (modules : List Interface) (m : Module) (nets : List ℕ) : Type 0 where
  pub inside : (k n : ℕ) → slice_get nets k ≡ Some n → IsInside modules m n
  pub undriven : (k n : ℕ) → slice_get nets k ≡ Some n → IsUndriven m n
  pub apart : AreApart nets

abbrev pub AreInside : List Interface → Module → List Bit → Type 0
AreInside modules m bits = (n : ℕ) → HasNet bits n → IsInside modules m n

abbrev pub IsNewName : Module → List ℕ → Type 0
IsNewName m name = (k : ℕ) → slice_get (cell_names m) k ≡ Some name → ⊥

-- A logic cell may join the module.
pub record CombJoins (modules : List Interface) (m : Module) (c : Comb) : Type 0 where
  pub fits : CombFits c
  pub fresh : IsNewName m c.name
  pub some : 0 < length c.y
  pub counted : length m.combs + 1 < 2 ^ 32
  pub reads : AreInside modules m (comb_bits c)
  pub drives : AreFreeNets modules m c.y

-- A register may join the module.
pub record RegJoins (modules : List Interface) (m : Module) (r : Reg) : Type 0 where
  pub fits : RegFits r
  pub fresh : IsNewName m r.name
  pub some : 0 < length r.q
  pub counted : length m.regs + 1 < 2 ^ 32
  pub clock : IsKnownClock m r.clock
  pub reads : AreInside modules m (reg_bits r)
  pub drives : AreFreeNets modules m r.q

-- The module with another read at a place of a memory.
abbrev pub with_port : Module → ℕ → Mem → ℕ → RdPort → Module
with_port m k x j q = record m { mems = set m.mems k (with_read x j q) }

-- A read may stand in the place of another one, over nets that nothing drives: it reads no more bits and has no other clock.
pub record ReadJoins (modules : List Interface) (m : Module) (k j : ℕ) (x : Mem) (p q : RdPort) : Type 0 where
  pub is : IsRead m k j x p
  pub fits : ReadFits x q
  pub wide : q.wide ≡ p.wide
  pub long : length q.out ≡ length p.out
  pub clock : (c : Clock) → q.clock ≡ Some c → p.clock ≡ Some c
  pub reads : (n : ℕ) → HasNet (read_bits q) n → HasNet (read_bits p) n
  pub drives : AreFreeNets modules m q.out

-- The laws: what joins a valid module leaves it valid.
abbrev pub AddedNetsIsValid : Type 0
AddedNetsIsValid =
    (lib : Library) (modules : List Interface) (m : Module) (count : ℕ) → m.nets + count ≤ 67108864 → IsValid lib modules m → IsValid lib modules (with_nets m count)

abbrev pub AddedCombIsValid : Type 0
AddedCombIsValid = (lib : Library) (modules : List Interface) (m : Module) (c : Comb) → CombJoins modules m c → IsValid lib modules m → IsValid lib modules (with_comb m c)

abbrev pub AddedRegIsValid : Type 0
AddedRegIsValid = (lib : Library) (modules : List Interface) (m : Module) (r : Reg) → RegJoins modules m r → IsValid lib modules m → IsValid lib modules (with_reg m r)

abbrev pub OtherReadIsValid : Type 0
OtherReadIsValid =
    (lib : Library) (modules : List Interface) (m : Module) (k j : ℕ) (x : Mem) (p q : RdPort) → ReadJoins modules m k j x p q → IsValid lib modules m → IsValid lib modules (with_port m k x j q)
