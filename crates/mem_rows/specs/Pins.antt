-- The pins of the memory cells in the order of the tables, with their widths. (Yosys manual, memories.)
use Rattle.std.specs.Prelude.{ℕ, ◌*◌, true, false, List, [], ◌∷◌, ◌++◌, codes, nat_eq, if◌then◌else◌}
use Rattle.cell_rows.specs.declared.pin.PinRow.{PinRow}
use Rattle.cell_rows.specs.Pins.{input, output}
use Rattle.mem_rows.specs.declared.row.MemRow.{MemRow}
use Rattle.mem_rows.specs.declared.row.MemRow.TheVariants as row
use Rattle.mem_rows.specs.declared.separate.InitRow.{InitRow}
use Rattle.mem_rows.specs.declared.separate.PortRow.{PortRow}
use Rattle.mem_rows.specs.declared.whole.WholeRow.{WholeRow}

-- a clock for each of so many ports
abbrev pub clocks : List ℕ → ℕ → PinRow
clocks name width = record { name = name; width = width; drives = false; clock = true }

unfoldable pub read_clocks : WholeRow → List PinRow
read_clocks r = clocks (codes "\\RD_CLK") r.reads ∷ input (codes "\\RD_EN") r.reads ∷ []

unfoldable pub read_resets : WholeRow → List PinRow
read_resets r = input (codes "\\RD_ARST") r.reads ∷ input (codes "\\RD_SRST") r.reads ∷ []

abbrev pub read_controls : WholeRow → List PinRow
read_controls r = read_clocks r ++ read_resets r

unfoldable pub read_words : WholeRow → List PinRow
read_words r = input (codes "\\RD_ADDR") (r.reads * r.abits) ∷ output (codes "\\RD_DATA") (r.reads * r.width) ∷ []

abbrev pub ports_that_read : WholeRow → List PinRow
ports_that_read r = read_controls r ++ read_words r

unfoldable pub ports_that_write : WholeRow → List PinRow
ports_that_write r =
    clocks (codes "\\WR_CLK") r.writes ∷ input (codes "\\WR_EN") (r.writes * r.width) ∷ input (codes "\\WR_ADDR") (r.writes * r.abits)
    ∷ input (codes "\\WR_DATA") (r.writes * r.width) ∷ []

-- a side without ports has no pins
abbrev pub reading_pins : WholeRow → List PinRow
reading_pins r = if nat_eq r.reads 0 then [] else ports_that_read r

abbrev pub writing_pins : WholeRow → List PinRow
writing_pins r = if nat_eq r.writes 0 then [] else ports_that_write r

abbrev pub whole_pins : WholeRow → List PinRow
whole_pins r = reading_pins r ++ writing_pins r

unfoldable pub old_read_pins : PortRow → List PinRow
old_read_pins r = clocks (codes "\\CLK") 1 ∷ input (codes "\\EN") 1 ∷ input (codes "\\ADDR") r.abits ∷ output (codes "\\DATA") r.width ∷ []

unfoldable pub read_pins : PortRow → List PinRow
read_pins r = old_read_pins r ++ (input (codes "\\ARST") 1 ∷ input (codes "\\SRST") 1 ∷ [])

unfoldable pub write_pins : PortRow → List PinRow
write_pins r = clocks (codes "\\CLK") 1 ∷ input (codes "\\EN") r.width ∷ input (codes "\\ADDR") r.abits ∷ input (codes "\\DATA") r.width ∷ []

unfoldable pub init_pins : InitRow → List PinRow
init_pins r = input (codes "\\ADDR") r.abits ∷ input (codes "\\DATA") (r.words * r.width) ∷ input (codes "\\EN") r.width ∷ []

abbrev pub mem_pins : MemRow → List PinRow
mem_pins (row.Whole r) = whole_pins r
mem_pins (row.Read r) = read_pins r
mem_pins (row.OldRead r) = old_read_pins r
mem_pins (row.Write r) = write_pins r
mem_pins (row.Init r) = init_pins r
