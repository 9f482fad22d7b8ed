-- A register with an enable and a synchronous reset over new nets.
use Rattle.std.specs.Prelude.{◌≡◌, ℕ, suc, true, false, cond, not, List, [], ◌++◌, length, Some, slice_get}
use Rattle.lib_core.specs.declared.library.Library.{Library}
use Rattle.lib_core.specs.declared.library.Tri.{Tri}
use Rattle.lib_core.specs.Rams.{tri_at}
use Rattle.net_core.specs.declared.bits.Bit.{Bit}
use Rattle.net_core.specs.declared.bits.Bit.TheVariants.{Zero}
use Rattle.net_core.specs.declared.cells.FfKind.TheVariants.{Sdffe}
use Rattle.net_core.specs.declared.cells.Reg.{Reg}
use Rattle.net_core.specs.declared.modules.Module.{Module}
use Rattle.net_core.specs.Ports.{inputs_of}
use Rattle.net_core.specs.Runs.{Run}
use Rattle.net_core.specs.Values.{Valuation, Wave, Happening, At, value_of, tri_of, Agrees, Shows, has_edge}
use Rattle.net_edit.specs.Edits.{Editing, nets_from, bits_from, with_nets, with_reg}
use Rattle.net_gates.specs.declared.registers.RegPins.{RegPins}
use Rattle.net_gates.specs.Adds.{Extends}

abbrev pub reg_cell : List ℕ → RegPins → List ℕ → Reg
reg_cell name p q = record {
  name = name;
  kind = Sdffe;
  clock = p.clock;
  en = p.en;
  en_high = true;
  arst = Zero;
  arst_high = false;
  arst_value = [];
  srst = p.rst;
  srst_high = true;
  srst_value = p.value;
  d = p.d;
  q = q;
  init = p.init;
}

-- the edit with the register and its new nets
abbrev pub with_register : Editing → List ℕ → RegPins → Editing
with_register e name p = record {
  netlist = with_reg (with_nets e.netlist (length p.d)) (reg_cell name p (nets_from e.netlist.nets (length p.d)));
  reads = e.reads ++ bits_from e.netlist.nets (length p.d);
}

-- what the net at a place shows after a moment in which it read this bit
abbrev pub after : List ℕ → RegPins → Happening → Valuation → ℕ → ℕ → Bit → Tri
after inputs p e u k q d =
    cond (not (has_edge inputs e.edge p.clock)) (tri_of (u q))
    (cond (value_of u p.rst) (tri_at p.value k)
    (cond (value_of u p.en) (tri_of (value_of u d)) (tri_of (u q))))

-- in each run the nets start with the initial bits, and step from moment to moment
pub record Remembers (m : Module) (p : RegPins) (nets : List ℕ) : Type 0 where
  pub starts : (lib : Library) (events : List Happening) (v : Wave) → Run lib m events v → (e : Happening) → At events 0 e → Shows (v 0) nets (tri_at p.init)
  pub steps : (lib : Library) (events : List Happening) (v : Wave) → Run lib m events v → (t : ℕ) (e next : Happening) → At events t e → At events (suc t) next → (k q : ℕ) (d : Bit) → slice_get nets k ≡ Some q → slice_get p.d k ≡ Some d → Agrees (after (inputs_of m) p e (v t) k q d) (v (suc t) q)

-- The module has a new register, whose outputs are new nets.
pub record AddsRegister (old new : Editing) (p : RegPins) : Type 0 where
  pub extends : Extends old new [] (bits_from old.netlist.nets (length p.d))
  pub remembers : Remembers new.netlist p (nets_from old.netlist.nets (length p.d))
