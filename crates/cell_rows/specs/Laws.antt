-- Laws of the rows.
use Rattle.std.specs.Prelude.{◌≡◌, List, Some}
use Rattle.net_core.specs.declared.cells.CombKind.{CombKind}
use Rattle.net_core.specs.declared.mems.Attr.{Attr}
use Rattle.net_core.specs.Valid.{is_carried_for_signs}
use Rattle.cell_table.specs.Names.{comb_type}
use Rattle.cell_rows.specs.declared.comb.CombRow.{CombRow}
use Rattle.cell_rows.specs.declared.reg.RegRow.{RegRow}
use Rattle.cell_rows.specs.Rows.{comb_row, is_carried_row, reg_row}
use Rattle.cell_rows.specs.Written.{CombRowFits, comb_params, RegRowFits, reg_params}

-- A cell is kept for its signs exactly where a valid design keeps it for them.
abbrev pub KeptForSigns : Type 0
KeptForSigns = (k : CombKind) (params : List Attr) (row : CombRow) → comb_row k params ≡ Some row → is_carried_for_signs (comb_type k) params ≡ is_carried_row row

-- The parameters by which a row is written say this row.
abbrev pub CombReadsBack : Type 0
CombReadsBack = (row : CombRow) → CombRowFits row → comb_row row.kind (comb_params row) ≡ Some row

abbrev pub RegReadsBack : Type 0
RegReadsBack = (row : RegRow) → RegRowFits row → reg_row row.kind (reg_params row) ≡ Some row
