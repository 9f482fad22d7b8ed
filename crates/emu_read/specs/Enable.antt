-- A read with an enable, made of one that loads at each edge: the last data while it is not enabled are kept outside.
use Rattle.std.specs.Prelude.{◌≡◌, ℕ, ◌+◌, ◌-◌, ◌*◌, ◌≤◌, ◌++◌, false, List, [], ◌∷◌, map, length, Some}
use Rattle.lib_core.specs.declared.library.Library.{Library}
use Rattle.lib_core.specs.declared.library.Tri.TheVariants.{Any}
use Rattle.net_core.specs.declared.bits.Bit.{Bit}
use Rattle.net_core.specs.declared.bits.Bit.TheVariants.{Zero, One, Net}
use Rattle.net_core.specs.declared.bits.Clock.{Clock}
use Rattle.net_core.specs.declared.cells.CombKind.TheVariants.{Mux}
use Rattle.net_core.specs.declared.cells.FfKind.TheVariants.{Dff}
use Rattle.net_core.specs.declared.cells.Comb.{Comb}
use Rattle.net_core.specs.declared.cells.Reg.{Reg}
use Rattle.net_core.specs.declared.mems.Mem.{Mem}
use Rattle.net_core.specs.declared.mems.RdPort.{RdPort}
use Rattle.net_core.specs.declared.modules.Module.{Module}
use Rattle.net_core.specs.Ports.{Interface}
use Rattle.net_core.specs.Valid.{NoneDefined, IsValid}
use Rattle.net_edit.specs.Edits.{as_bits, nets_from, bits_from, with_nets, with_reg, IsFresh, Editing, AddsReg, AddsComb}
use Rattle.net_gates.specs.Adds.{IsWithin}
use Rattle.net_gates.specs.Cells.{logic_cell}
use Rattle.rewriting.specs.Known.{QuietWith}
use Rattle.rewriting.specs.Reads.{mask_without, mask_with, IsRead, LoadsAlways, loses_quiet_of, EmulatesRead, read_bits}
use Rattle.emu_read.specs.Emulating.{Outside, emulated}
use Rattle.emu_read.specs.Joining.{with_port}

-- a register that has no other pins
abbrev pub plain_reg : List ℕ → Clock → List Bit → List ℕ → Reg
plain_reg name clock d q = record {
  name = name;
  kind = Dff;
  clock = clock;
  en = Zero;
  en_high = false;
  arst = Zero;
  arst_high = false;
  arst_value = [];
  srst = Zero;
  srst_high = false;
  srst_value = [];
  d = d;
  q = q;
  init = map (λ n. Any) q;
}

-- the read that loads at each edge, over other nets; of the listed writes it may take any value
abbrev pub loads_always : List ℕ → RdPort → List ℕ → RdPort
loads_always quiet p q = record p { en = One; trans = mask_without quiet 0 p.trans; coll = mask_with quiet 0 p.coll; out = q }

-- the names of the cells outside
pub record EnableNames : Type 0 where
  pub loaded : List ℕ
  pub held : List ℕ
  pub choice : List ℕ

-- From a net on: the new outputs, what was shown before the last edge, and whether the last edge loaded. The old outputs are
-- the first of these while it is 1, else the second.
abbrev pub enable_outside : ℕ → Clock → RdPort → EnableNames → Outside
enable_outside first clock p names =
    let width = length p.out in
    record {
      nets = width + width + 1;
      combs = logic_cell names.choice Mux (bits_from (first + width) width) (bits_from first width) (Net (first + width + width) ∷ []) p.out ∷ [];
      regs = plain_reg names.loaded clock (p.en ∷ []) ((first + width + width) ∷ []) ∷ plain_reg names.held clock (as_bits p.out) (nets_from (first + width) width) ∷ [];
    }

-- a clocked read that is never reset and has no defined start bit
pub record IsPlainRead (m : Module) (k j : ℕ) (x : Mem) (p : RdPort) (clock : Clock) : Type 0 where
  pub is : IsRead m k j x p
  pub clocked : p.clock ≡ Some clock
  pub arst : p.arst ≡ Zero
  pub srst : p.srst ≡ Zero
  pub start : NoneDefined p.init_value

-- the cells of the emulation, and the modules to which they are added one after the other
abbrev pub loaded_reg : ℕ → Clock → RdPort → EnableNames → Reg
loaded_reg first clock p names = plain_reg names.loaded clock (p.en ∷ []) ((first + length p.out + length p.out) ∷ [])

abbrev pub held_reg : ℕ → Clock → RdPort → EnableNames → Reg
held_reg first clock p names = plain_reg names.held clock (as_bits p.out) (nets_from (first + length p.out) (length p.out))

abbrev pub with_free_read : Module → ℕ → ℕ → Mem → RdPort → List ℕ → Module
with_free_read m k j x p quiet = with_port (with_nets m (length p.out + length p.out + 1)) k x j (loads_always quiet p (nets_from m.nets (length p.out)))

-- no cell has one of the names when its own is added
pub record AreNewNames (m : Module) (k j : ℕ) (x : Mem) (p : RdPort) (clock : Clock) (quiet : List ℕ) (names : EnableNames) : Type 0 where
  pub loaded : IsFresh (with_free_read m k j x p quiet) names.loaded
  pub held : IsFresh (with_reg (with_free_read m k j x p quiet) (loaded_reg m.nets clock p names)) names.held
  pub choice : IsFresh (with_reg (with_reg (with_free_read m k j x p quiet) (loaded_reg m.nets clock p names)) (held_reg m.nets clock p names)) names.choice

-- The law: the read with what is kept outside is an emulation of the read.
abbrev pub EnableIsEmulated : Type 0
EnableIsEmulated =
    (lib : Library) (modules : List Interface) (m : Module) (k j : ℕ) (x : Mem) (p : RdPort) (clock : Clock) (quiet : List ℕ) (names : EnableNames) → IsPlainRead m k j x p clock → IsWithin m → IsValid lib modules m → m.nets + (length p.out + length p.out + 1) ≤ 67108864 → AreNewNames m k j x p clock quiet names → QuietWith lib m x j quiet → EmulatesRead lib modules k j x p (LoadsAlways quiet) (loses_quiet_of j) m (emulated m k x j (loads_always quiet p (nets_from m.nets (length p.out))) (enable_outside m.nets clock p names))

-- the read is there
pub record HasRead (m : Module) (k j : ℕ) : Type 0 where
  pub mem : Mem
  pub port : RdPort
  pub is : IsRead m k j mem port

-- Two registers and a logic cell are added, one after the other.
pub record AddsCells (old new : Editing) (first second : Reg) (third : Comb) : Type 0 where
  pub after_first : Editing
  pub after_second : Editing
  pub one : AddsReg old after_first first
  pub two : AddsReg after_first after_second second
  pub three : AddsComb after_second new third

-- The edit has the read without its enable, and what stands outside it, each cell under a new name.
pub record PutsOutside (old new : Editing) (k j : ℕ) (x : Mem) (p : RdPort) (clock : Clock) (quiet : List ℕ) : Type 0 where
  pub names : EnableNames
  pub fresh : AreNewNames old.netlist k j x p clock quiet names
  pub netlist : new.netlist ≡ emulated old.netlist k x j (loads_always quiet p (nets_from old.netlist.nets (length p.out))) (enable_outside old.netlist.nets clock p names)
  pub reads : new.reads ≡ old.reads ++ bits_from old.netlist.nets (length p.out + length p.out + 1)

-- A clocked read of a valid module may be emulated: there is room for what an emulation may add.
pub record CanEmulate (m : Module) (k j : ℕ) : Type 0 where
  pub lib : Library
  pub modules : List Interface
  pub valid : IsValid lib modules m
  pub within : IsWithin m
  pub mem : Mem
  pub port : RdPort
  pub clock : Clock
  pub is : IsRead m k j mem port
  pub clocked : port.clock ≡ Some clock
  pub room : m.nets + 4 * read_bits mem port ≤ 67108864

-- What the call takes of a read before it is changed.
pub record Outlines (m : Module) (k j : ℕ) (clock : Clock) (en : Bit) (out : List ℕ) (width : ℕ) : Type 0 where
  pub mem : Mem
  pub port : RdPort
  pub is : IsRead m k j mem port
  pub clocked : port.clock ≡ Some clock
  pub enable : en ≡ port.en
  pub nets : out ≡ port.out
  pub wide : width ≡ length port.out
  pub room : m.nets + (width + width + 1) ≤ 67108864

-- The new nets of an edit are read as themselves.
abbrev pub HasNewNets : Editing → Editing → Type 0
HasNewNets old new = (old.netlist.nets ≤ new.netlist.nets) × (new.reads ≡ old.reads ++ bits_from old.netlist.nets (new.netlist.nets - old.netlist.nets))

-- A read that is never reset and has no defined start bit loads at each edge now.
abbrev pub EnableIsOutside : List ℕ → ℕ → ℕ → Module → Module → Type 0
EnableIsOutside quiet k j old new =
    (lib : Library) (modules : List Interface) (x : Mem) (p : RdPort) (clock : Clock) → IsPlainRead old k j x p clock → IsValid lib modules old → QuietWith lib old x j quiet → EmulatesRead lib modules k j x p (LoadsAlways quiet) (loses_quiet_of j) old new
