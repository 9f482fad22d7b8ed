-- The pins of a cell as the file gives them.
use Rattle.std.specs.Prelude.{ℕ, List, [], ◌∷◌, ◌++◌, length, Option, Some, None}
use Rattle.std.specs.List.{find, flat_map}
use Rattle.std.specs.Str.{bytes_eq}
use Rattle.rtlil_text.specs.declared.doc.CellLine.{CellLine}
use Rattle.rtlil_text.specs.declared.doc.CellLine.TheVariants as line
use Rattle.rtlil_text.specs.declared.doc.Part.{Part}
use Rattle.cell_rows.specs.declared.pin.PinRow.{PinRow}
use Rattle.net_wires.specs.declared.breach.Breach.{Breach}
use Rattle.net_wires.specs.Connects.{width_breaches}
use Rattle.net_wires.specs.Parts.{signal_bits, signal_breaches}
use Rattle.net_wires.specs.Spans.{Entry}
use Rattle.net_gather.specs.declared.file_pin.FilePin.{FilePin}

-- the pin of this name in a table
abbrev pub in_table : List PinRow → List ℕ → Option PinRow
in_table table name = find (λ (r : PinRow). bytes_eq r.name name) table

abbrev pub row_breaches : Option PinRow → ℕ → List Breach
row_breaches None width = []
row_breaches (Some r) width = width_breaches width r.width

-- a pin that the table lacks may have any width
abbrev pub pin_breaches : List Entry → List PinRow → List ℕ → List Part → List Breach
pin_breaches names table name value = signal_breaches names value ++ row_breaches (in_table table name) (length (signal_bits names value))

abbrev pub line_breaches : List Entry → List PinRow → CellLine → List Breach
line_breaches names table (line.Param p) = []
line_breaches names table (line.Pin name value) = pin_breaches names table name value

abbrev pub file_pin : List Entry → List ℕ → List Part → FilePin
file_pin names name value = record { name = name; bits = signal_bits names value }

abbrev pub line_pins : List Entry → CellLine → List FilePin
line_pins names (line.Param p) = []
line_pins names (line.Pin name value) = file_pin names name value ∷ []

-- the pins among the lines of a cell, in file order
abbrev pub file_pins : List Entry → List CellLine → List FilePin
file_pins names lines = flat_map (line_pins names) lines

abbrev pub file_breaches : List Entry → List PinRow → List CellLine → List Breach
file_breaches names table lines = flat_map (line_breaches names table) lines
