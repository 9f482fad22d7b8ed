-- What is known of each item of a module that a text has.
use Rattle.std.proofs.Common.{◌≡◌, ◌+◌, ◌<◌, ◌^◌, List, [], ◌∷◌, ◌++◌, map, length, arith}
use Rattle.std.specs.List.{flat_map}
use Rattle.std.proofs.lemmas.List.{length-append}
use Rattle.rtlil_text.specs.declared.doc.CellLine.{CellLine}
use Rattle.rtlil_text.specs.declared.doc.CellLine.TheVariants as line
use Rattle.rtlil_text.specs.declared.doc.DocAttr.{DocAttr}
use Rattle.rtlil_text.specs.declared.doc.DocCell.{DocCell}
use Rattle.rtlil_text.specs.declared.doc.DocMem.{DocMem}
use Rattle.rtlil_text.specs.declared.doc.DocModule.{DocModule}
use Rattle.rtlil_text.specs.declared.doc.DocWire.{DocWire}
use Rattle.rtlil_text.specs.declared.doc.Item.{Item}
use Rattle.rtlil_text.specs.declared.doc.Item.TheVariants as item
use Rattle.rtlil_text.specs.declared.place.Statement.{Statement}
use Rattle.rtlil_text.specs.declared.place.Statement.TheVariants as says
use Rattle.rtlil_text.specs.Grammar.{All, AreDistinct, attributes, cell_begin, HasNewNames, item_statements, line_statement, module_begin, module_statements, pin_name}
use Rattle.rtlil_print.specs.WellFormed.{IsPortNumber, IsStatement}
use Rattle.net_core.specs.Valid.{AttrsFit, IsName, ParamsFit}
use Rattle.doc_params.specs.Docs.{attrs_of, params_of}
use Rattle.net_fits.specs.Written.{AttrIsWritten, HasShortConst, IsWritten, LineIsWritten}
use Rattle.net_fits.proofs.Lists.{all_left, all_right, all_with, length_map}
use Rattle.net_fits.proofs.Naming.{identifier_is_name}
use Rattle.net_fits.proofs.Attrs.{attrs_fit, params_fit}

-- a statement of a text, with a constant that is short
abbrev pub Good : Statement → Type 0
Good s = IsStatement s × HasShortConst s

pub record WireKnown (w : DocWire) : Type 0 where
  pub name : IsName w.name
  pub attrs : AttrsFit (attrs_of w.attrs)
  pub width : w.width < 2 ^ 31
  pub port : w.port < 2 ^ 31
  pub number : IsPortNumber w.input w.output w.port

pub record MemKnown (m : DocMem) : Type 0 where
  pub name : IsName m.name
  pub attrs : AttrsFit (attrs_of m.attrs)

pub record CellKnown (c : DocCell) : Type 0 where
  pub name : IsName c.name
  pub kind : IsName c.kind
  pub attrs : AttrsFit (attrs_of c.attrs)
  pub params : ParamsFit (params_of c.lines)
  pub pins : All IsName (flat_map pin_name c.lines)
  pub distinct : AreDistinct (flat_map pin_name c.lines)
  pub count : length c.lines < 2 ^ 32

abbrev pub ItemKnown : Item → Type 0
ItemKnown (item.Wire w) = WireKnown w
ItemKnown (item.Param p) = Unit {0}
ItemKnown (item.Mem m) = MemKnown m
ItemKnown (item.Cell c) = CellKnown c
ItemKnown (item.Connect l r) = Unit {0}

-- ---- attributes and lines

attrs_written : (as_ : List DocAttr) → All Good (attributes as_) → All AttrIsWritten as_
attrs_written [] g = tt
attrs_written (a ∷ as_) g = ((g.0.0.0, g.0.1), attrs_written as_ g.1)

attrs_known : (as_ : List DocAttr) (more : List Statement) → All Good (attributes as_ ++ more) → length (attributes as_ ++ more) < 2 ^ 32 → AttrsFit (attrs_of as_)
attrs_known as_ more g short =
    let same : length (attributes as_) ≡ length as_ = length_map (λ a. says.Attribute a) as_ in
    let sum : length (attributes as_ ++ more) ≡ length (attributes as_) + length more = length-append (attributes as_) more in
    attrs_fit as_ (attrs_written as_ (all_left Good (attributes as_) more g)) (omega (arith, same, sum, short))

lines_written : (ls : List CellLine) → All Good (map line_statement ls) → All LineIsWritten ls
lines_written [] g = tt
lines_written (line.Param p ∷ ls) g = ((g.0.0.0, g.0.1), lines_written ls g.1)
lines_written (line.Pin n v ∷ ls) g = (g.0.0.0, lines_written ls g.1)

pins_named : (ls : List CellLine) → All LineIsWritten ls → All IsName (flat_map pin_name ls)
pins_named [] w = tt
pins_named (line.Param p ∷ ls) w = pins_named ls w.1
pins_named (line.Pin n v ∷ ls) w = (identifier_is_name n w.0, pins_named ls w.1)

-- ---- items

wire_known : (w : DocWire) → All Good (item_statements (item.Wire w)) → length (item_statements (item.Wire w)) < 2 ^ 32 → WireKnown w
wire_known w g short =
    let own : All Good (says.Wire (record w { attrs = [] }) ∷ []) = all_right Good (attributes w.attrs) _ g in
    record {
      name = identifier_is_name w.name own.0.0.0;
      attrs = attrs_known w.attrs _ g short;
      width = own.0.0.1.width;
      port = own.0.0.1.port;
      number = own.0.0.1.number;
    }

mem_known : (m : DocMem) → All Good (item_statements (item.Mem m)) → length (item_statements (item.Mem m)) < 2 ^ 32 → MemKnown m
mem_known m g short =
    let own : All Good (says.Memory (record m { attrs = [] }) ∷ []) = all_right Good (attributes m.attrs) _ g in
    record { name = identifier_is_name m.name own.0.0.0; attrs = attrs_known m.attrs _ g short }

cell_known : (c : DocCell) → All Good (item_statements (item.Cell c)) → length (item_statements (item.Cell c)) < 2 ^ 32 → HasNewNames (item.Cell c) → CellKnown c
cell_known c g short new =
    let begin : All Good (cell_begin c) = all_left Good (cell_begin c) _ g in
    let behind : All Good (map line_statement c.lines ++ says.End ∷ []) = all_right Good (cell_begin c) _ g in
    let own : All Good (says.Cell c.kind c.name ∷ []) = all_right Good (attributes c.attrs) _ begin in
    let lines : All LineIsWritten c.lines = lines_written c.lines (all_left Good (map line_statement c.lines) _ behind) in
    let sum : length (cell_begin c ++ (map line_statement c.lines ++ says.End ∷ [])) ≡ length (cell_begin c) + length (map line_statement c.lines ++ says.End ∷ []) = length-append (cell_begin c) _ in
    let more : length (map line_statement c.lines ++ says.End ∷ []) ≡ length (map line_statement c.lines) + 1 = length-append (map line_statement c.lines) _ in
    let same : length (map line_statement c.lines) ≡ length c.lines = length_map line_statement c.lines in
    let few : length c.lines < 2 ^ 32 = omega (arith, sum, more, same, short) in
    let front : length (cell_begin c) < 2 ^ 32 = omega (arith, sum, short) in
    record {
      name = identifier_is_name c.name own.0.0.1;
      kind = identifier_is_name c.kind own.0.0.0;
      attrs = attrs_known c.attrs _ begin front;
      params = params_fit c.lines lines new few;
      pins = pins_named c.lines lines;
      distinct = new.pins;
      count = few;
    }

item_known : (i : Item) → All Good (item_statements i) → length (item_statements i) < 2 ^ 32 → HasNewNames i → ItemKnown i
item_known (item.Wire w) g short new = wire_known w g short
item_known (item.Param p) g short new = tt
item_known (item.Mem m) g short new = mem_known m g short
item_known (item.Cell c) g short new = cell_known c g short new
item_known (item.Connect l r) g short new = tt

each_known : (is : List Item) → All Good (flat_map item_statements is) → length (flat_map item_statements is) < 2 ^ 32 → All HasNewNames is → All ItemKnown is
each_known [] g short new = tt
each_known (i ∷ is) g short new =
    let sum : length (item_statements i ++ flat_map item_statements is) ≡ length (item_statements i) + length (flat_map item_statements is) = length-append (item_statements i) _ in (
      item_known i (all_left Good (item_statements i) _ g) (omega (arith, sum, short)) new.0,
      each_known is (all_right Good (item_statements i) _ g) (omega (arith, sum, short)) new.1,
    )

-- ---- modules

all_good : (m : DocModule) → IsWritten m → All Good (module_statements m)
all_good m w = all_with IsStatement HasShortConst Good (module_statements m) (λ s a b. (a, b)) w.statements w.short

pub items_known : (m : DocModule) → IsWritten m → All ItemKnown m.items
items_known m w =
    let behind : All Good (flat_map item_statements m.items ++ says.End ∷ []) = all_right Good (module_begin m) _ (all_good m w) in
    let sum : length (module_begin m ++ (flat_map item_statements m.items ++ says.End ∷ [])) ≡ length (module_begin m) + length (flat_map item_statements m.items ++ says.End ∷ []) = length-append (module_begin m) _ in
    let more : length (flat_map item_statements m.items ++ says.End ∷ []) ≡ length (flat_map item_statements m.items) + 1 = length-append (flat_map item_statements m.items) _ in
    each_known m.items (all_left Good (flat_map item_statements m.items) _ behind) (let short : length (module_begin m ++ (flat_map item_statements m.items ++ says.End ∷ [])) < 2 ^ 31 = w.count in omega (arith, sum, more, short)) w.names.inside

pub head_known : (m : DocModule) → IsWritten m → IsName m.name × AttrsFit (attrs_of m.attrs)
head_known m w =
    let begin : All Good (module_begin m) = all_left Good (module_begin m) _ (all_good m w) in
    let own : All Good (says.Module m.name ∷ []) = all_right Good (attributes m.attrs) _ begin in
    let sum : length (module_begin m ++ (flat_map item_statements m.items ++ says.End ∷ [])) ≡ length (module_begin m) + length (flat_map item_statements m.items ++ says.End ∷ []) = length-append (module_begin m) _ in
    let short : length (module_begin m ++ (flat_map item_statements m.items ++ says.End ∷ [])) < 2 ^ 31 = w.count in
    (identifier_is_name m.name own.0.0, attrs_known m.attrs _ begin (omega (arith, sum, short)))
