-- The one text that a document is printed as, in RTLIL's text representation as the Yosys manual describes it: a line for each
-- statement, two spaces for each depth, one space between tokens, and no space inside the brackets of a slice.
use Rattle.std.specs.Prelude.{ℕ, ℤ, pos, negsuc, Bool, true, false, List, [], ◌++◌, Option, Some, None, codes, ◌==◌, if◌then◌else◌}
use Rattle.std.specs.List.{flat_map}
use Rattle.rtlil_lex.specs.declared.token.Token.TheVariants as token
use Rattle.rtlil_lex.specs.declared.token.Word.{Word}
use Rattle.rtlil_lex.specs.declared.token.Word.TheVariants as word
use Rattle.rtlil_lex.specs.Spelling.{spelling, spaced}
use Rattle.rtlil_text.specs.declared.doc.CellLine.{CellLine}
use Rattle.rtlil_text.specs.declared.doc.CellLine.TheVariants as line_of
use Rattle.rtlil_text.specs.declared.doc.Doc.{Doc}
use Rattle.rtlil_text.specs.declared.doc.DocAttr.{DocAttr}
use Rattle.rtlil_text.specs.declared.doc.DocCell.{DocCell}
use Rattle.rtlil_text.specs.declared.doc.DocConst.{DocConst}
use Rattle.rtlil_text.specs.declared.doc.DocFlag.{DocFlag}
use Rattle.rtlil_text.specs.declared.doc.DocFlag.TheVariants as flag
use Rattle.rtlil_text.specs.declared.doc.DocMem.{DocMem}
use Rattle.rtlil_text.specs.declared.doc.DocModule.{DocModule}
use Rattle.rtlil_text.specs.declared.doc.DocParam.{DocParam}
use Rattle.rtlil_text.specs.declared.doc.DocWire.{DocWire}
use Rattle.rtlil_text.specs.declared.doc.Item.{Item}
use Rattle.rtlil_text.specs.declared.doc.Item.TheVariants as item
use Rattle.rtlil_text.specs.declared.doc.Part.{Part}
use Rattle.rtlil_text.specs.declared.doc.Part.TheVariants as part
use Rattle.rtlil_text.specs.Grammar.{const_token}
use Rattle.rtlil_print.specs.declared.line.Depth.{Depth}
use Rattle.rtlil_print.specs.declared.line.Depth.TheVariants as depth

-- ---- lines

abbrev pub indent : Depth → List ℕ
indent depth.File = []
indent depth.Module = codes "  "
indent depth.Cell = codes "    "

-- a line: its first word, and what stands behind it, each with a space before it
unfoldable pub line : Depth → Word → List ℕ → List ℕ
line d w rest = indent d ++ (spelling (token.Word w) ++ rest) ++ codes "\n"

abbrev pub name_text : List ℕ → List ℕ
name_text n = spaced (token.Id n)

abbrev pub number_text : ℤ → List ℕ
number_text z = spaced (token.Number z)

-- a constant in digits stands with all of them, a number and a string as such
abbrev pub const_text : DocConst → List ℕ
const_text c = spaced (const_token c)

abbrev pub value_text : Option DocConst → List ℕ
value_text None = []
value_text (Some c) = const_text c

-- ---- signals

abbrev pub end_text : ℕ → List ℕ
end_text n = spelling (token.Number (pos n))

-- [h:l], or [h] where both ends are equal
abbrev pub slice_text : ℕ → ℕ → List ℕ
slice_text h l = if h == l then codes " [" ++ end_text h ++ codes "]" else codes " [" ++ (end_text h ++ (codes ":" ++ (end_text l ++ codes "]")))

unfoldable pub part_text : Part → List ℕ
part_text (part.Fixed c) = const_text c
part_text (part.Wire n) = name_text n
part_text (part.Slice h l) = slice_text h l
part_text part.Begin = codes " {"
part_text part.End = codes " }"

abbrev pub signal_text : List Part → List ℕ
signal_text ps = flat_map part_text ps

-- ---- options of wires and memories, each left out where it says what holds without it

abbrev pub word_and_number : Word → ℤ → List ℕ
word_and_number w z = spaced (token.Word w) ++ number_text z

abbrev pub count_option : Word → ℕ → ℕ → List ℕ
count_option w n without = if n == without then [] else word_and_number w (pos n)

abbrev pub offset_option : ℤ → List ℕ
offset_option (pos n) = count_option word.Offset n 0
offset_option (negsuc n) = word_and_number word.Offset (negsuc n)

-- an inout stands as such alone, and the number of a wire that is no port is not written
abbrev pub port_option : Bool → Bool → ℕ → List ℕ
port_option true true n = word_and_number word.Inout (pos n)
port_option true false n = word_and_number word.Input (pos n)
port_option false true n = word_and_number word.Output (pos n)
port_option false false n = []

abbrev pub flag_option : Word → Bool → List ℕ
flag_option w b = if b then spaced (token.Word w) else []

unfoldable pub wire_options : DocWire → List ℕ
wire_options w = count_option word.Width w.width 1 ++ offset_option w.offset ++ port_option w.input w.output w.port ++ flag_option word.Upto w.upto ++ flag_option word.Signed w.signed

unfoldable pub memory_options : DocMem → List ℕ
memory_options m = count_option word.Width m.width 1 ++ count_option word.Size m.size 0 ++ count_option word.Offset m.offset 0

-- ---- statements, attributes before their object

abbrev pub attribute_text : Depth → DocAttr → List ℕ
attribute_text d a = line d word.Attribute (name_text a.name ++ const_text a.value)

abbrev pub attributes_text : Depth → List DocAttr → List ℕ
attributes_text d attrs = flat_map (attribute_text d) attrs

abbrev pub flag_text : DocFlag → List ℕ
flag_text flag.Plain = []
flag_text flag.Signed = spaced (token.Word word.Signed)
flag_text flag.Real = spaced (token.Word word.Real)

abbrev pub parameter_text : Depth → DocParam → List ℕ
parameter_text d p = line d word.Parameter (flag_text p.flag ++ name_text p.name ++ value_text p.value)

abbrev pub cell_line_text : CellLine → List ℕ
cell_line_text (line_of.Param p) = parameter_text depth.Cell p
cell_line_text (line_of.Pin n v) = line depth.Cell word.Connect (name_text n ++ signal_text v)

abbrev pub cell_text : DocCell → List ℕ
cell_text c =
    attributes_text depth.Module c.attrs
    ++ line depth.Module word.Cell (name_text c.kind ++ name_text c.name)
    ++ flat_map cell_line_text c.lines
    ++ line depth.Module word.End []

abbrev pub item_text : Item → List ℕ
item_text (item.Param p) = parameter_text depth.Module p
item_text (item.Wire w) = attributes_text depth.Module w.attrs ++ line depth.Module word.Wire (wire_options w ++ name_text w.name)
item_text (item.Mem m) = attributes_text depth.Module m.attrs ++ line depth.Module word.Memory (memory_options m ++ name_text m.name)
item_text (item.Cell c) = cell_text c
item_text (item.Connect l r) = line depth.Module word.Connect (signal_text l ++ signal_text r)

abbrev pub module_text : DocModule → List ℕ
module_text m =
    attributes_text depth.File m.attrs
    ++ line depth.File word.Module (name_text m.name)
    ++ flat_map item_text m.items
    ++ line depth.File word.End []

-- the printed text of a document
unfoldable pub printed : Doc → List ℕ
printed d = flat_map module_text d.modules
