-- One logic cell over new nets.
use Rattle.std.specs.Prelude.{◌≡◌, ℕ, ◌⊎◌, false, List, ◌++◌}
use Rattle.net_core.specs.declared.bits.Bit.{Bit}
use Rattle.net_core.specs.declared.cells.Comb.{Comb}
use Rattle.net_core.specs.declared.cells.CombKind.{CombKind}
use Rattle.net_edit.specs.declared.fault.EditFault.{EditFault}
use Rattle.net_edit.specs.declared.fault.EditFault.TheVariants.{Full, Memory}
use Rattle.net_edit.specs.Edits.{Editing, nets_from, bits_from, with_nets, with_fresh, with_comb}

abbrev pub logic_cell : List ℕ → CombKind → List Bit → List Bit → List Bit → List ℕ → Comb
logic_cell name kind a b s y = record { name = name; kind = kind; signed = false; a = a; b = b; s = s; y = y }

-- the edit with so many new nets and the cell that drives them
abbrev pub with_logic : Editing → List ℕ → CombKind → List Bit → List Bit → List Bit → ℕ → Editing
with_logic e name kind a b s width = record {
  netlist = with_comb (with_nets e.netlist width) (logic_cell name kind a b s (nets_from e.netlist.nets width));
  reads = e.reads ++ bits_from e.netlist.nets width;
}

pub record AddsLogic (old new : Editing) (kind : CombKind) (a b s : List Bit) (width : ℕ) : Type 0 where
  pub name : List ℕ
  pub added : new ≡ with_logic old name kind a b s width

-- What an edit is where a cell over so many new nets is refused: as it was where there is no room, and without memory with the
-- new nets at most.
abbrev pub IsLeft : Editing → Editing → ℕ → EditFault → Type 0
IsLeft old new width (Full seen) = new ≡ old
IsLeft old new width Memory = (new ≡ old) ⊎ (new ≡ with_fresh old width)
