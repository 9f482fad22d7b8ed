-- The tests by which it is found whether a document has a text, each of one kind of thing in it.
use Rattle.std.specs.Prelude.{ℕ, zero, suc, ◌+◌, ℤ, pos, negsuc, Bool, true, false, not, ◌&&◌, ◌||◌, List, [], ◌∷◌, ◌++◌, map, Option, Some, None, nat_lt, nat_le, ◌==◌, if◌then◌else◌}
use Rattle.std.specs.List.{flat_map, list_all}
use Rattle.rtlil_lex.specs.Bytes.{is_visible, begins_identifier, is_on_line}
use Rattle.rtlil_text.specs.declared.doc.CellLine.{CellLine}
use Rattle.rtlil_text.specs.declared.doc.CellLine.TheVariants as line
use Rattle.rtlil_text.specs.declared.doc.Doc.{Doc}
use Rattle.rtlil_text.specs.declared.doc.DocAttr.{DocAttr}
use Rattle.rtlil_text.specs.declared.doc.DocCell.{DocCell}
use Rattle.rtlil_text.specs.declared.doc.DocConst.{DocConst}
use Rattle.rtlil_text.specs.declared.doc.DocConst.TheVariants as const
use Rattle.rtlil_text.specs.declared.doc.DocFlag.{DocFlag}
use Rattle.rtlil_text.specs.declared.doc.DocFlag.TheVariants as flag
use Rattle.rtlil_text.specs.declared.doc.DocMem.{DocMem}
use Rattle.rtlil_text.specs.declared.doc.DocModule.{DocModule}
use Rattle.rtlil_text.specs.declared.doc.DocParam.{DocParam}
use Rattle.rtlil_text.specs.declared.doc.DocWire.{DocWire}
use Rattle.rtlil_text.specs.declared.doc.Item.{Item}
use Rattle.rtlil_text.specs.declared.doc.Item.TheVariants as item
use Rattle.rtlil_text.specs.declared.doc.Part.{Part}
use Rattle.rtlil_text.specs.declared.doc.Part.TheVariants as part
use Rattle.rtlil_text.specs.Grammar.{has, module_name, wire_name, memory_name, cell_name, parameter_name, pin_name}
use Rattle.doc_fits.specs.declared.names.ItemKind.{ItemKind}
use Rattle.doc_fits.specs.declared.names.ItemKind.TheVariants as item_kind
use Rattle.doc_fits.specs.declared.names.LineKind.{LineKind}
use Rattle.doc_fits.specs.declared.names.LineKind.TheVariants as line_kind
use Rattle.doc_fits.specs.declared.signal.Spot.{Spot}

-- ---- names and numbers

-- a byte of a name: no white space and no line feed
abbrev pub is_name_byte : ℕ → Bool
is_name_byte b = is_visible b && is_on_line b

abbrev pub begins_name : List ℕ → Bool
begins_name [] = false
begins_name (b ∷ []) = false
begins_name (b ∷ c ∷ bs) = begins_identifier b

unfoldable pub is_identifier : List ℕ → Bool
is_identifier n = begins_name n && list_all is_name_byte n

-- a number that is not negative and has 32 bits with a sign
abbrev pub is_count : ℕ → Bool
is_count n = nat_lt n 2147483648

abbrev pub int_fits : ℤ → Bool
int_fits (pos n) = is_count n
int_fits (negsuc n) = is_count n

unfoldable pub const_fits : DocConst → Bool
const_fits (const.Digits ds) = true
const_fits (const.Number z) = int_fits z
const_fits (const.Text t) = true

-- ---- signals

abbrev pub spot : ℕ → Bool → Spot
spot depth ended = record { depth = depth; ended = ended }

-- behind a signal that stands by itself no other may begin
abbrev pub may_begin : Spot → Bool
may_begin s = nat_lt 0 s.depth || not s.ended

abbrev pub goes : Bool → Spot → Option Spot
goes b s = if b then Some s else None

abbrev pub closed : ℕ → Option Spot
closed zero = None
closed (suc depth) = Some (spot depth true)

-- where a part of a signal leads
unfoldable pub step : Spot → Part → Option Spot
step s (part.Fixed c) = goes (const_fits c && may_begin s) (spot s.depth true)
step s (part.Wire n) = goes (is_identifier n && may_begin s) (spot s.depth true)
step s (part.Slice high low) = goes (s.ended && nat_le low high && is_count high) s
step s part.Begin = goes (may_begin s) (spot (s.depth + 1) false)
step s part.End = closed s.depth

abbrev pub on_spot : Option Spot → (Spot → Option Spot) → Option Spot
on_spot None f = None
on_spot (Some s) f = f s

unfoldable pub walk : Spot → List Part → Option Spot
walk s [] = Some s
walk s (p ∷ ps) = on_spot (step s p) (λ t. walk t ps)

abbrev pub ends : Option Spot → Bool
ends None = false
ends (Some s) = s.depth == 0 && s.ended

unfoldable pub is_signal : List Part → Bool
is_signal ps = ends (walk (spot 0 false) ps)

-- ---- statements

unfoldable pub attribute_fits : DocAttr → Bool
attribute_fits a = is_identifier a.name && const_fits a.value

abbrev pub attributes_fit : List DocAttr → Bool
attributes_fit attrs = list_all attribute_fits attrs

abbrev pub is_plain : DocFlag → Bool
is_plain flag.Plain = true
is_plain f = false

-- the value of a parameter, where `missing` says whether it may have none
abbrev pub value_fits : Bool → Option DocConst → Bool
value_fits missing None = missing
value_fits missing (Some c) = const_fits c

-- a parameter of a module, and one of a cell
unfoldable pub parameter_fits : DocParam → Bool
parameter_fits p = is_plain p.flag && is_identifier p.name && value_fits true p.value

unfoldable pub cell_parameter_fits : DocParam → Bool
cell_parameter_fits p = is_identifier p.name && value_fits false p.value

-- the port's number of a wire
abbrev pub port_fits : DocWire → Bool
port_fits w = is_count w.port && (w.input || w.output || w.port == 0)

abbrev pub wire_numbers_fit : DocWire → Bool
wire_numbers_fit w = is_count w.width && int_fits w.offset && port_fits w

unfoldable pub wire_fits : DocWire → Bool
wire_fits w = attributes_fit w.attrs && is_identifier w.name && wire_numbers_fit w

abbrev pub memory_numbers_fit : DocMem → Bool
memory_numbers_fit m = is_count m.width && is_count m.size && is_count m.offset

unfoldable pub memory_fits : DocMem → Bool
memory_fits m = attributes_fit m.attrs && is_identifier m.name && memory_numbers_fit m

unfoldable pub line_fits : CellLine → Bool
line_fits (line.Param p) = cell_parameter_fits p
line_fits (line.Pin n v) = is_identifier n && is_signal v

-- ---- names that have to be new

-- none is equal to one before it
unfoldable pub are_new : List (List ℕ) → List (List ℕ) → Bool
are_new taken [] = true
are_new taken (n ∷ ns) = not (has taken n) && are_new (taken ++ n ∷ []) ns

abbrev pub name_of_item : ItemKind → Item → List (List ℕ)
name_of_item item_kind.Wire i = wire_name i
name_of_item item_kind.Memory i = memory_name i
name_of_item item_kind.Cell i = cell_name i

abbrev pub name_of_line : LineKind → CellLine → List (List ℕ)
name_of_line line_kind.Parameter l = parameter_name l
name_of_line line_kind.Pin l = pin_name l

abbrev pub items_are_new : ItemKind → List Item → Bool
items_are_new k is = are_new [] (flat_map (λ i. name_of_item k i) is)

abbrev pub lines_are_new : LineKind → List CellLine → Bool
lines_are_new k ls = are_new [] (flat_map (λ l. name_of_line k l) ls)

-- ---- documents

unfoldable pub head_fits : DocCell → Bool
head_fits c = attributes_fit c.attrs && is_identifier c.kind && is_identifier c.name

unfoldable pub lines_fit : List CellLine → Bool
lines_fit ls = list_all line_fits ls && lines_are_new line_kind.Parameter ls && lines_are_new line_kind.Pin ls

unfoldable pub item_fits : Item → Bool
item_fits (item.Param p) = parameter_fits p
item_fits (item.Wire w) = wire_fits w
item_fits (item.Mem m) = memory_fits m
item_fits (item.Cell c) = head_fits c && lines_fit c.lines
item_fits (item.Connect l r) = is_signal l && is_signal r

unfoldable pub items_fit : List Item → Bool
items_fit is = list_all item_fits is && items_are_new item_kind.Wire is && items_are_new item_kind.Memory is && items_are_new item_kind.Cell is

unfoldable pub module_fits : DocModule → Bool
module_fits m = attributes_fit m.attrs && is_identifier m.name && items_fit m.items

unfoldable pub doc_fits : Doc → Bool
doc_fits d = list_all module_fits d.modules && are_new [] (map module_name d.modules)
