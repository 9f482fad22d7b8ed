-- The test of a document decides whether it is well formed, and so whether it has a text.
use Rattle.std.proofs.Common.{◌≡◌, ℕ, Bool, true, false, List, [], ◌∷◌, ◌++◌, map, Option, Some, None, refl, sym, ap, subst, ◌∙◌, arith}
use Rattle.std.specs.Prelude.{not, ◌&&◌, ◌||◌, ◌==◌}
use Rattle.std.specs.Bool.{Decides}
use Rattle.std.specs.List.{flat_map, list_all}
use Rattle.std.proofs.lemmas.Bool.Decides.{Decides-and, Decides-at, Decides-like, Decides-eqb, Decides-ltb}
use Rattle.rtlil_lex.specs.Spelling.{IsInt}
use Rattle.rtlil_text.specs.declared.doc.CellLine.{CellLine}
use Rattle.rtlil_text.specs.declared.doc.CellLine.TheVariants as line
use Rattle.rtlil_text.specs.declared.doc.Doc.{Doc}
use Rattle.rtlil_text.specs.declared.doc.DocAttr.{DocAttr}
use Rattle.rtlil_text.specs.declared.doc.DocCell.{DocCell}
use Rattle.rtlil_text.specs.declared.doc.DocConst.{DocConst}
use Rattle.rtlil_text.specs.declared.doc.DocFlag.{DocFlag}
use Rattle.rtlil_text.specs.declared.doc.DocFlag.TheVariants as flag
use Rattle.rtlil_text.specs.declared.doc.DocMem.{DocMem}
use Rattle.rtlil_text.specs.declared.doc.DocModule.{DocModule}
use Rattle.rtlil_text.specs.declared.doc.DocParam.{DocParam}
use Rattle.rtlil_text.specs.declared.doc.DocWire.{DocWire}
use Rattle.rtlil_text.specs.declared.doc.Item.{Item}
use Rattle.rtlil_text.specs.declared.doc.Item.TheVariants as item
use Rattle.rtlil_text.specs.declared.place.Statement.{Statement}
use Rattle.rtlil_text.specs.declared.place.Statement.TheVariants as says
use Rattle.rtlil_text.specs.Grammar.{All, attributes, line_statement, cell_begin, item_statements, module_begin, module_statements, wire_name, memory_name, cell_name, parameter_name, pin_name, module_name, AreDistinct, HasNewLines, HasNewNames, HasNewItems, HasNewModules}
use Rattle.rtlil_text.specs.Reads.{Writable}
use Rattle.rtlil_print.specs.Print.{printed}
use Rattle.rtlil_print.proofs.RoundTrip.{printed_reads}
use Rattle.rtlil_print.proofs.Statements.{read_well_formed}
use Rattle.rtlil_print.specs.WellFormed.{IsPortNumber, IsWire, IsMemory, MayHaveConst, HasConst, IsStatement, IsWellFormed}
use Rattle.doc_fits.specs.declared.names.ItemKind.TheVariants as item_kind
use Rattle.doc_fits.specs.declared.names.LineKind.TheVariants as line_kind
use Rattle.doc_fits.specs.Tests.{is_identifier, is_count, int_fits, const_fits, is_signal, attribute_fits, attributes_fit, is_plain, value_fits, parameter_fits, cell_parameter_fits, port_fits, wire_numbers_fit, wire_fits, memory_numbers_fit, memory_fits, line_fits, are_new, items_are_new, lines_are_new, head_fits, lines_fit, item_fits, items_fit, module_fits, doc_fits}
use Rattle.doc_fits.proofs.Deciding.{join, split, decides_append, decides_one, decides_map, decides_flat, decides_new}
use Rattle.doc_fits.proofs.Signals.{decides_identifier, decides_int, decides_const, decides_signal}

-- ---- statements

decides_attribute : (a : DocAttr) → Decides (attribute_fits a) (IsStatement (says.Attribute a))
unfolding attribute_fits
decides_attribute a = Decides-and (is_identifier a.name) (const_fits a.value) (decides_identifier a.name) (decides_const a.value)

decides_attributes : (attrs : List DocAttr) → Decides (attributes_fit attrs) (All IsStatement (attributes attrs))
decides_attributes attrs = decides_map IsStatement attribute_fits (λ a. says.Attribute a) decides_attribute attrs

decides_plain : (f : DocFlag) → Decides (is_plain f) (f ≡ flag.Plain)
decides_plain flag.Plain = (λ e. refl, λ p. refl)
decides_plain flag.Signed = (λ e. absurd cc, λ p. absurd cc)
decides_plain flag.Real = (λ e. absurd cc, λ p. absurd cc)

decides_value : (v : Option DocConst) → Decides (value_fits true v) (MayHaveConst v)
decides_value None = (λ e. tt, λ p. refl)
decides_value (Some c) = decides_const c

decides_a_value : (v : Option DocConst) → Decides (value_fits false v) (HasConst v)
decides_a_value None = (λ e. absurd cc, λ p. absurd p)
decides_a_value (Some c) = decides_const c

decides_parameter : (p : DocParam) → Decides (parameter_fits p) (IsStatement (says.Parameter p))
unfolding parameter_fits
decides_parameter p =
    Decides-like (is_plain p.flag && is_identifier p.name && value_fits true p.value) (λ r. (r.0.0, r.0.1, r.1)) (λ r. ((r.0, r.1), r.2))
    (Decides-and (is_plain p.flag && is_identifier p.name) (value_fits true p.value)
    (Decides-and (is_plain p.flag) (is_identifier p.name) (decides_plain p.flag) (decides_identifier p.name))
    (decides_value p.value))

decides_cell_parameter : (p : DocParam) → Decides (cell_parameter_fits p) (IsStatement (says.CellParameter p))
unfolding cell_parameter_fits
decides_cell_parameter p = Decides-and (is_identifier p.name) (value_fits false p.value) (decides_identifier p.name) (decides_a_value p.value)

decides_port : (input output : Bool) (n : ℕ) → Decides (input || output || n == 0) (IsPortNumber input output n)
decides_port true output n = (λ e. tt, λ p. refl)
decides_port false true n = (λ e. tt, λ p. refl)
decides_port false false n = Decides-eqb n 0

decides_numbers : (w : DocWire) → Decides (wire_numbers_fit w) (IsWire (record w { attrs = [] }))
decides_numbers w =
    Decides-like (wire_numbers_fit w)
    (λ r. record { attrs = refl; width = r.0.0; offset = r.0.1; port = r.1.0; number = r.1.1 })
    (λ r. ((r.width, r.offset), (r.port, r.number)))
    (Decides-and (is_count w.width && int_fits w.offset) (port_fits w)
    (Decides-and (is_count w.width) (int_fits w.offset) (Decides-ltb w.width 2147483648) (decides_int w.offset))
    (Decides-and (is_count w.port) (w.input || w.output || w.port == 0) (Decides-ltb w.port 2147483648) (decides_port w.input w.output w.port)))

decides_wire : (w : DocWire) → Decides (wire_fits w) (All IsStatement (item_statements (item.Wire w)))
unfolding wire_fits
decides_wire w =
    Decides-like (wire_fits w)
    (λ r. join IsStatement (attributes w.attrs) (says.Wire (record w { attrs = [] }) ∷ []) r.0.0 ((r.0.1, r.1), tt))
    (λ r. let s = split IsStatement (attributes w.attrs) (says.Wire (record w { attrs = [] }) ∷ []) r in ((s.0, s.1.0.0), s.1.0.1))
    (Decides-and (attributes_fit w.attrs && is_identifier w.name) (wire_numbers_fit w)
    (Decides-and (attributes_fit w.attrs) (is_identifier w.name) (decides_attributes w.attrs) (decides_identifier w.name))
    (decides_numbers w))

decides_sizes : (m : DocMem) → Decides (memory_numbers_fit m) (IsMemory (record m { attrs = [] }))
decides_sizes m =
    Decides-like (memory_numbers_fit m)
    (λ r. record { attrs = refl; width = r.0.0; size = r.0.1; offset = r.1 })
    (λ r. ((r.width, r.size), r.offset))
    (Decides-and (is_count m.width && is_count m.size) (is_count m.offset)
    (Decides-and (is_count m.width) (is_count m.size) (Decides-ltb m.width 2147483648) (Decides-ltb m.size 2147483648))
    (Decides-ltb m.offset 2147483648))

decides_memory : (m : DocMem) → Decides (memory_fits m) (All IsStatement (item_statements (item.Mem m)))
unfolding memory_fits
decides_memory m =
    Decides-like (memory_fits m)
    (λ r. join IsStatement (attributes m.attrs) (says.Memory (record m { attrs = [] }) ∷ []) r.0.0 ((r.0.1, r.1), tt))
    (λ r. let s = split IsStatement (attributes m.attrs) (says.Memory (record m { attrs = [] }) ∷ []) r in ((s.0, s.1.0.0), s.1.0.1))
    (Decides-and (attributes_fit m.attrs && is_identifier m.name) (memory_numbers_fit m)
    (Decides-and (attributes_fit m.attrs) (is_identifier m.name) (decides_attributes m.attrs) (decides_identifier m.name))
    (decides_sizes m))

-- ---- cells

decides_line : (l : CellLine) → Decides (line_fits l) (IsStatement (line_statement l))
unfolding line_fits
decides_line (line.Param p) = decides_cell_parameter p
decides_line (line.Pin n v) = Decides-and (is_identifier n) (is_signal v) (decides_identifier n) (decides_signal v)

decides_lines : (ls : List CellLine) → Decides (lines_fit ls) (All IsStatement (map line_statement ls) × HasNewLines ls)
unfolding lines_fit
decides_lines ls =
    Decides-like (lines_fit ls)
    (λ r. (r.0.0, record { parameters = r.0.1; pins = r.1 }))
    (λ r. ((r.0, r.1.parameters), r.1.pins))
    (Decides-and (list_all line_fits ls && lines_are_new line_kind.Parameter ls) (lines_are_new line_kind.Pin ls)
    (Decides-and (list_all line_fits ls) (lines_are_new line_kind.Parameter ls) (decides_map IsStatement line_fits line_statement decides_line ls) (decides_new [] (flat_map parameter_name ls)))
    (decides_new [] (flat_map pin_name ls)))

decides_head : (c : DocCell) → Decides (head_fits c) (All IsStatement (cell_begin c))
unfolding head_fits
decides_head c =
    Decides-like (head_fits c)
    (λ r. join IsStatement (attributes c.attrs) (says.Cell c.kind c.name ∷ []) r.0.0 ((r.0.1, r.1), tt))
    (λ r. let s = split IsStatement (attributes c.attrs) (says.Cell c.kind c.name ∷ []) r in ((s.0, s.1.0.0), s.1.0.1))
    (Decides-and (attributes_fit c.attrs && is_identifier c.kind) (is_identifier c.name)
    (Decides-and (attributes_fit c.attrs) (is_identifier c.kind) (decides_attributes c.attrs) (decides_identifier c.kind))
    (decides_identifier c.name))

decides_cell : (c : DocCell) → Decides (head_fits c && lines_fit c.lines) (All IsStatement (item_statements (item.Cell c)) × HasNewLines c.lines)
decides_cell c =
    Decides-like (head_fits c && lines_fit c.lines)
    (λ r. (join IsStatement (cell_begin c) (map line_statement c.lines ++ says.End ∷ []) r.0 (join IsStatement (map line_statement c.lines) (says.End ∷ []) r.1.0 (tt, tt)), r.1.1))
    (λ r. let s = split IsStatement (cell_begin c) (map line_statement c.lines ++ says.End ∷ []) r.0 in (s.0, ((split IsStatement (map line_statement c.lines) (says.End ∷ []) s.1).0, r.1)))
    (Decides-and (head_fits c) (lines_fit c.lines) (decides_head c) (decides_lines c.lines))

-- ---- items, modules and documents

with_unit : (b : Bool) (P : Type 0) → Decides b P → Decides b (P × Unit {0})
with_unit b P d = Decides-like b (λ r. (r, tt)) (λ r. r.0) d

decides_item : (i : Item) → Decides (item_fits i) (All IsStatement (item_statements i) × HasNewNames i)
unfolding item_fits
decides_item (item.Param p) = with_unit (parameter_fits p) (All IsStatement (item_statements (item.Param p))) (decides_one IsStatement (parameter_fits p) (says.Parameter p) (decides_parameter p))
decides_item (item.Wire w) = with_unit (wire_fits w) (All IsStatement (item_statements (item.Wire w))) (decides_wire w)
decides_item (item.Mem m) = with_unit (memory_fits m) (All IsStatement (item_statements (item.Mem m))) (decides_memory m)
decides_item (item.Cell c) = decides_cell c
decides_item (item.Connect l r) =
    with_unit (is_signal l && is_signal r) (All IsStatement (item_statements (item.Connect l r)))
    (decides_one IsStatement (is_signal l && is_signal r) (says.Connect l r) (Decides-and (is_signal l) (is_signal r) (decides_signal l) (decides_signal r)))

decides_items : (is : List Item) → Decides (items_fit is) (All IsStatement (flat_map item_statements is) × HasNewItems is)
unfolding items_fit
decides_items is =
    Decides-like (items_fit is)
    (λ r. (r.0.0.0.0, record { wires = r.0.0.1; memories = r.0.1; cells = r.1; inside = r.0.0.0.1 }))
    (λ r. ((((r.0, r.1.inside), r.1.wires), r.1.memories), r.1.cells))
    (Decides-and (list_all item_fits is && items_are_new item_kind.Wire is && items_are_new item_kind.Memory is) (items_are_new item_kind.Cell is)
    (Decides-and (list_all item_fits is && items_are_new item_kind.Wire is) (items_are_new item_kind.Memory is)
    (Decides-and (list_all item_fits is) (items_are_new item_kind.Wire is) (decides_flat IsStatement HasNewNames item_fits item_statements decides_item is) (decides_new [] (flat_map wire_name is)))
    (decides_new [] (flat_map memory_name is)))
    (decides_new [] (flat_map cell_name is)))

decides_module : (m : DocModule) → Decides (module_fits m) (All IsStatement (module_statements m) × HasNewItems m.items)
unfolding module_fits
decides_module m =
    Decides-like (module_fits m)
    (λ r. (
      join IsStatement (module_begin m) (flat_map item_statements m.items ++ says.End ∷ [])
          (join IsStatement (attributes m.attrs) (says.Module m.name ∷ []) r.0.0 (r.0.1, tt))
          (join IsStatement (flat_map item_statements m.items) (says.End ∷ []) r.1.0 (tt, tt)),
      r.1.1,
    ))
    (λ r.
    let s = split IsStatement (module_begin m) (flat_map item_statements m.items ++ says.End ∷ []) r.0 in
    let b = split IsStatement (attributes m.attrs) (says.Module m.name ∷ []) s.0 in
    ((b.0, b.1.0), ((split IsStatement (flat_map item_statements m.items) (says.End ∷ []) s.1).0, r.1)))
    (Decides-and (attributes_fit m.attrs && is_identifier m.name) (items_fit m.items)
    (Decides-and (attributes_fit m.attrs) (is_identifier m.name) (decides_attributes m.attrs) (decides_identifier m.name))
    (decides_items m.items))

pub decides_doc : (d : Doc) → Decides (doc_fits d) (IsWellFormed d)
unfolding doc_fits
decides_doc d =
    Decides-like (doc_fits d)
    (λ r. record { statements = r.0.0; names = record { modules = r.1; inside = r.0.1 } })
    (λ w. ((w.statements, w.names.inside), w.names.modules))
    (Decides-and (list_all module_fits d.modules) (are_new [] (map module_name d.modules))
    (decides_flat IsStatement (λ m. HasNewItems m.items) module_fits module_statements decides_module d.modules)
    (decides_new [] (map module_name d.modules)))

-- what reads is well formed, and what is well formed has its printed text
pub decides_text : (d : Doc) → Decides (doc_fits d) (Writable d)
decides_text d = Decides-like (doc_fits d) (λ w. (printed d, printed_reads d w)) (λ p. read_well_formed p.0 d p.1) (decides_doc d)

pub decided : (d : Doc) (b : Bool) → b ≡ doc_fits d → Decides b (Writable d)
decided d b e = Decides-at b (doc_fits d) e (decides_text d)
