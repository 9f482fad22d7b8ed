-- What a cell is by its type and its parameters, and the pins of its table.
use Rattle.std.specs.Prelude.{ℕ, Bool, true, false, List, [], ◌∷◌, ◌++◌, length, drop, Option, Some, None, slice_get, if◌then◌else◌}
use Rattle.std.specs.List.{list_all}
use Rattle.lib_core.specs.declared.library.Group.{Group}
use Rattle.lib_core.specs.declared.library.Library.{Library}
use Rattle.lib_core.specs.declared.library.RamKind.{RamKind}
use Rattle.lib_core.specs.declared.library.Variant.{Variant}
use Rattle.rtlil_text.specs.declared.doc.CellLine.{CellLine}
use Rattle.rtlil_text.specs.declared.doc.CellLine.TheVariants as line
use Rattle.net_core.specs.declared.mems.Attr.{Attr}
use Rattle.cell_rows.specs.declared.comb.CombRow.{CombRow}
use Rattle.cell_rows.specs.declared.kinds.CellKind.{CellKind}
use Rattle.cell_rows.specs.declared.kinds.CellKind.TheVariants as kind
use Rattle.cell_rows.specs.declared.kinds.MemKind.{MemKind}
use Rattle.cell_rows.specs.declared.pin.PinRow.{PinRow}
use Rattle.cell_rows.specs.declared.reg.RegRow.{RegRow}
use Rattle.cell_rows.specs.Pins.{comb_pins, reg_pins}
use Rattle.cell_rows.specs.Rows.{comb_row, is_carried_row, reg_row}
use Rattle.mem_rows.specs.declared.row.MemRow.{MemRow}
use Rattle.mem_rows.specs.ByType.{is_known, mem_row}
use Rattle.mem_rows.specs.Pins.{mem_pins}
use Rattle.ram_rows.specs.declared.options.Chosen.{Chosen}
use Rattle.ram_rows.specs.declared.options.Chosen.TheVariants as chosen
use Rattle.ram_rows.specs.declared.row.RamRow.{RamRow}
use Rattle.ram_rows.specs.declared.slots.SlotRow.{SlotRow}
use Rattle.ram_rows.specs.Options.{chosen_by}
use Rattle.ram_rows.specs.RamPins.{knows_param, knows_pin, slot_pins}
use Rattle.ram_rows.specs.RamRows.{has_strange_level, row_at}
use Rattle.net_wires.specs.declared.breach.Breach.{Breach}
use Rattle.net_wires.specs.declared.breach.BuildCode.TheVariants as code
use Rattle.net_wires.specs.Finds.{breach}
use Rattle.raw_cells.specs.declared.raw.RamUse.{RamUse}
use Rattle.raw_cells.specs.declared.row.CellRow.{CellRow}
use Rattle.raw_cells.specs.declared.row.CellRow.TheVariants as row
use Rattle.raw_cells.specs.declared.row.Found.{Found}
use Rattle.raw_cells.specs.declared.row.Found.TheVariants as found

-- ---- rows

abbrev pub found_comb : Option CombRow → Found
found_comb None = found.Missing
found_comb (Some r) = found.Row (row.Comb r)

abbrev pub found_reg : Option RegRow → Found
found_reg None = found.Missing
found_reg (Some r) = found.Row (row.Reg r)

abbrev pub found_mem : Option MemRow → Found
found_mem None = found.Missing
found_mem (Some r) = found.Row (row.Memory r)

abbrev pub found_memory : MemKind → List Attr → Found
found_memory k params = if is_known k params then found_mem (mem_row k params) else found.Unknown

-- a RAM cell whose parameters suit no variant of the RAM is strange, and so is one of a width that the variant lacks
abbrev pub strange_or : Bool → RamUse → CellRow
strange_or true u = row.StrangeRam
strange_or false u = row.Ram u

abbrev pub found_slots : ℕ → ℕ → Variant → Option RamRow → Found
found_slots ram place v None = found.Missing
found_slots ram place v (Some r) = found.Row (strange_or (has_strange_level v r) (record { ram = ram; variant = place; row = r }))

abbrev pub found_variant : ℕ → ℕ → List Attr → Option Variant → Found
found_variant ram place params None = found.Row row.StrangeRam
found_variant ram place params (Some v) = found_slots ram place v (row_at v params)

abbrev pub found_chosen : ℕ → List Attr → List Variant → Chosen → Found
found_chosen ram params variants chosen.Missing = found.Missing
found_chosen ram params variants chosen.Nothing = found.Row row.StrangeRam
found_chosen ram params variants (chosen.Variant place) = found_variant ram place params (slice_get variants place)

abbrev pub found_ram : ℕ → List Attr → Option RamKind → Found
found_ram ram params None = found.Unknown
found_ram ram params (Some k) = found_chosen ram params k.variants (chosen_by params k.variants)

-- the row of a cell by its kind; that of a type which is not known, or of which a parameter is missing, is not there
abbrev pub found_row : Library → CellKind → List Attr → Found
found_row lib (kind.Comb k) params = found_comb (comb_row k params)
found_row lib (kind.Reg k) params = found_reg (reg_row k params)
found_row lib kind.Carried params = found.Row row.Kept
found_row lib (kind.Memory k) params = found_memory k params
found_row lib (kind.Ram place) params = found_ram place params (slice_get lib.rams place)
found_row lib (kind.Instance place) params = found.Row row.Kept
found_row lib kind.Unknown params = found.Unknown

-- ---- the pins of RAM cells

-- those of the ports of a group
abbrev pub names_pins : Variant → Group → List (List ℕ) → List SlotRow → List PinRow
names_pins v g [] ss = []
names_pins v g (n ∷ ns) [] = []
names_pins v g (n ∷ ns) (s ∷ ss) = slot_pins v g s.level n ++ names_pins v g ns ss

abbrev pub groups_pins : Variant → List Group → List SlotRow → List PinRow
groups_pins v [] ss = []
groups_pins v (g ∷ gs) ss = names_pins v g g.names ss ++ groups_pins v gs (drop (length g.names) ss)

abbrev pub variant_in : Option RamKind → ℕ → Option Variant
variant_in None place = None
variant_in (Some k) place = slice_get k.variants place

-- the variant that the cell is of
abbrev pub variant_of : Library → RamUse → Option Variant
variant_of lib u = variant_in (slice_get lib.rams u.ram) u.variant

abbrev pub variant_pins : Option Variant → List SlotRow → List PinRow
variant_pins None ss = []
variant_pins (Some v) ss = groups_pins v v.groups ss

abbrev pub line_known : Variant → CellLine → Bool
line_known v (line.Param p) = knows_param v p.name
line_known v (line.Pin n s) = knows_pin v n

abbrev pub lines_known : Option Variant → List CellLine → Bool
lines_known None lines = false
lines_known (Some v) lines = list_all (line_known v) lines

-- A RAM cell suits a variant, and has no parameters and pins but those of it. That its pins suit it is looked at elsewhere.
abbrev pub ram_breaches : Library → CellRow → List CellLine → List Breach
ram_breaches lib (row.Comb r) lines = []
ram_breaches lib (row.Reg r) lines = []
ram_breaches lib (row.Memory r) lines = []
ram_breaches lib (row.Ram u) lines = if lines_known (variant_of lib u) lines then [] else breach code.BadRam ∷ []
ram_breaches lib row.StrangeRam lines = breach code.BadRam ∷ []
ram_breaches lib row.Kept lines = []

-- the pins that the table of a cell has; a cell that is kept as it is has none but for its signs
abbrev pub table_of : Library → CellRow → List PinRow
table_of lib (row.Comb r) = comb_pins r
table_of lib (row.Reg r) = reg_pins r
table_of lib (row.Memory r) = mem_pins r
table_of lib (row.Ram u) = variant_pins (variant_of lib u) u.row.slots
table_of lib row.StrangeRam = []
table_of lib row.Kept = []

-- a cell is kept as it is by its type, or for the signs of its operands
abbrev pub is_kept : CellRow → Bool
is_kept (row.Comb r) = is_carried_row r
is_kept (row.Reg r) = false
is_kept (row.Memory r) = false
is_kept (row.Ram u) = false
is_kept row.StrangeRam = true
is_kept row.Kept = true
