-- The printed text of a document reads as the document.
use Rattle.std.proofs.Common.{◌≡◌, ◌≢◌, ℕ, ℤ, pos, negsuc, ◌<◌, ◌^◌, Bool, true, false, List, [], ◌∷◌, ◌++◌, map, Option, Some, None, refl, sym, ap, subst, ◌∙◌, append_assoc, append-nil}
use Rattle.std.specs.Prelude.{codes, ◌==◌}
use Rattle.std.specs.List.{flat_map}
use Rattle.std.proofs.lemmas.List.{map-append}
use Rattle.std.proofs.lemmas.List.Concat.{flat_map-append}
use Rattle.rtlil_lex.specs.declared.token.Token.{Token}
use Rattle.rtlil_lex.specs.declared.token.Token.TheVariants as token
use Rattle.rtlil_lex.specs.declared.token.Word.{Word}
use Rattle.rtlil_lex.specs.declared.token.Word.TheVariants as word
use Rattle.rtlil_lex.specs.Lines.{token_lines}
use Rattle.rtlil_lex.specs.Spelling.{IsInt, IsIdentifier, Fits, spelling, spaced}
use Rattle.rtlil_lex.proofs.Pieces.{AllOf, AreSpaces, Piece, piece_none, piece_then, piece_token, piece_all, piece_index, piece_range, Printed, printed_none, printed_then, printed_line, printed_whole}
use Rattle.rtlil_text.specs.declared.doc.CellLine.{CellLine}
use Rattle.rtlil_text.specs.declared.doc.CellLine.TheVariants as line_of
use Rattle.rtlil_text.specs.declared.doc.Doc.{Doc}
use Rattle.rtlil_text.specs.declared.doc.DocAttr.{DocAttr}
use Rattle.rtlil_text.specs.declared.doc.DocCell.{DocCell}
use Rattle.rtlil_text.specs.declared.doc.DocConst.{DocConst}
use Rattle.rtlil_text.specs.declared.doc.DocFlag.{DocFlag}
use Rattle.rtlil_text.specs.declared.doc.DocFlag.TheVariants as flag
use Rattle.rtlil_text.specs.declared.doc.DocMem.{DocMem}
use Rattle.rtlil_text.specs.declared.doc.DocModule.{DocModule}
use Rattle.rtlil_text.specs.declared.doc.DocParam.{DocParam}
use Rattle.rtlil_text.specs.declared.doc.DocWire.{DocWire}
use Rattle.rtlil_text.specs.declared.doc.Item.{Item}
use Rattle.rtlil_text.specs.declared.doc.Item.TheVariants as item
use Rattle.rtlil_text.specs.declared.doc.Part.{Part}
use Rattle.rtlil_text.specs.declared.doc.Part.TheVariants as part
use Rattle.rtlil_text.specs.declared.place.Statement.{Statement}
use Rattle.rtlil_text.specs.declared.place.Statement.TheVariants as says
use Rattle.rtlil_text.specs.Grammar as grammar
use Rattle.rtlil_text.specs.Grammar.{const_token, flag_tokens, value_tokens, WireOption, wire_option_tokens, MemOption, mem_option_tokens, Says, autoidx, attribute, module_line, parameter, wire_line, memory, cell, connect, cell_parameter, pin, end, attributes, line_statement, item_statements, module_statements, modules_alone, EachSays, no_lines, more_lines, nonblank, written, HasNewModules}
use Rattle.rtlil_text.specs.Reads.{EndsBlank, Reads, Writable}
use Rattle.rtlil_print.specs.declared.line.Depth.{Depth}
use Rattle.rtlil_print.specs.declared.line.Depth.TheVariants as depth
use Rattle.rtlil_print.specs.Print.{indent, line, value_text, slice_text, part_text, signal_text, word_and_number, count_option, offset_option, port_option, flag_option, wire_options, memory_options, attribute_text, attributes_text, flag_text, parameter_text, cell_line_text, cell_text, item_text, module_text, printed}
use Rattle.rtlil_print.specs.WellFormed.{IsWire, IsMemory, IsWellFormed}
use Rattle.rtlil_print.proofs.Canonical.{slice_tokens, part_tokens, signal_tokens, PartFits, ValueFits, width_list, offset_list, port_list, flag_list, wire_list, mem_list_of, mem_list, printed_tokens, Printable}
use Rattle.rtlil_print.proofs.PrintedSignals.{all_parts}
use Rattle.rtlil_print.proofs.Statements.{read_well_formed, all_printable}

-- ---- what stands on a line

name_piece : (n : List ℕ) → IsIdentifier n → Piece (spaced (token.Id n)) (token.Id n ∷ [])
name_piece n f = piece_token (token.Id n) f

const_piece : (c : DocConst) → Fits (const_token c) → Piece (spaced (const_token c)) (const_token c ∷ [])
const_piece c f = piece_token (const_token c) f

value_piece : (v : Option DocConst) → ValueFits v → Piece (value_text v) (value_tokens v)
value_piece None f = piece_none
value_piece (Some c) f = const_piece c f

-- a word that the grammar knows
abbrev IsNamed : Word → Type 0
IsNamed w = w ≢ word.Other

word_piece : (w : Word) → IsNamed w → Piece (spaced (token.Word w)) (token.Word w ∷ [])
word_piece w h = piece_token (token.Word w) h

flag_piece : (f : DocFlag) → Piece (flag_text f) (flag_tokens f)
flag_piece flag.Plain = piece_none
flag_piece flag.Signed = word_piece word.Signed (λ e. absurd cc)
flag_piece flag.Real = word_piece word.Real (λ e. absurd cc)

slice_piece_by : (h l : ℕ) (b : Bool) → h == l ≡ b → h < 2 ^ 31 → l < 2 ^ 31 → Piece (slice_text h l) (slice_tokens h l)
slice_piece_by h l true e p q = rw e (piece_index (pos h) p)
slice_piece_by h l false e p q = rw e (piece_range (pos h) (pos l) p q)

open_piece : Piece (codes " {") (token.OpenBrace ∷ [])
unfolding spelling
open_piece = piece_token token.OpenBrace tt

close_piece : Piece (codes " }") (token.CloseBrace ∷ [])
unfolding spelling
close_piece = piece_token token.CloseBrace tt

part_piece : (p : Part) → PartFits p → Piece (part_text p) (part_tokens p)
unfolding part_text
part_piece (part.Fixed c) f = const_piece c f
part_piece (part.Wire n) f = name_piece n f
part_piece (part.Slice h l) f = slice_piece_by h l (h == l) refl f.0 f.1
part_piece part.Begin f = open_piece
part_piece part.End f = close_piece

signal_piece : (ps : List Part) → AllOf PartFits ps → Piece (signal_text ps) (signal_tokens ps)
signal_piece ps f = piece_all part_text part_tokens PartFits part_piece ps f

-- ---- options

number_piece : (w : Word) (z : ℤ) → IsNamed w → IsInt z → Piece (word_and_number w z) (token.Word w ∷ token.Number z ∷ [])
number_piece w z h f = piece_then (spaced (token.Word w)) (spaced (token.Number z)) (token.Word w ∷ []) (token.Number z ∷ []) (word_piece w h) (piece_token (token.Number z) f)

width_piece : (n : ℕ) (b : Bool) → n == 1 ≡ b → n < 2 ^ 31 → Piece (count_option word.Width n 1) (flat_map wire_option_tokens (width_list n))
width_piece n true e f = rw e piece_none
width_piece n false e f = rw e (number_piece word.Width (pos n) (λ e. absurd cc) f)

count_offset_piece : (n : ℕ) (b : Bool) → n == 0 ≡ b → n < 2 ^ 31 → Piece (count_option word.Offset n 0) (flat_map wire_option_tokens (offset_list (pos n)))
count_offset_piece n true e f = rw e piece_none
count_offset_piece n false e f = rw e (number_piece word.Offset (pos n) (λ e. absurd cc) f)

offset_piece : (z : ℤ) → IsInt z → Piece (offset_option z) (flat_map wire_option_tokens (offset_list z))
offset_piece (pos n) f = count_offset_piece n (n == 0) refl f
offset_piece (negsuc n) f = number_piece word.Offset (negsuc n) (λ e. absurd cc) f

port_piece : (i o : Bool) (n : ℕ) → n < 2 ^ 31 → Piece (port_option i o n) (flat_map wire_option_tokens (port_list i o n))
port_piece true true n f = number_piece word.Inout (pos n) (λ e. absurd cc) f
port_piece true false n f = number_piece word.Input (pos n) (λ e. absurd cc) f
port_piece false true n f = number_piece word.Output (pos n) (λ e. absurd cc) f
port_piece false false n f = piece_none

upto_piece : (b : Bool) → Piece (flag_option word.Upto b) (flat_map wire_option_tokens (flag_list grammar.upto b))
upto_piece true = word_piece word.Upto (λ e. absurd cc)
upto_piece false = piece_none

signed_piece : (b : Bool) → Piece (flag_option word.Signed b) (flat_map wire_option_tokens (flag_list grammar.signed b))
signed_piece true = word_piece word.Signed (λ e. absurd cc)
signed_piece false = piece_none

-- options, and then more of them
more_options : (a b : List ℕ) (os ps : List WireOption) → Piece a (flat_map wire_option_tokens os) → Piece b (flat_map wire_option_tokens ps) → Piece (a ++ b) (flat_map wire_option_tokens (os ++ ps))
more_options a b os ps p q = subst (λ (x : List Token). Piece (a ++ b) x) (sym (flat_map-append wire_option_tokens os ps)) (piece_then a b (flat_map wire_option_tokens os) (flat_map wire_option_tokens ps) p q)

wire_piece : (w : DocWire) → IsWire w → Piece (wire_options w) (flat_map wire_option_tokens (wire_list w))
unfolding wire_options
wire_piece w f =
    let a = more_options _ _ _ _ (width_piece w.width (w.width == 1) refl f.width) (offset_piece w.offset f.offset) in
    let b = more_options _ _ _ _ a (port_piece w.input w.output w.port f.port) in
    let c = more_options _ _ _ _ b (upto_piece w.upto) in
    more_options _ _ _ _ c (signed_piece w.signed)

mem_width_piece : (n : ℕ) (b : Bool) → n == 1 ≡ b → n < 2 ^ 31 → Piece (count_option word.Width n 1) (flat_map mem_option_tokens (mem_list_of grammar.mem_width n 1))
mem_width_piece n true e f = rw e piece_none
mem_width_piece n false e f = rw e (number_piece word.Width (pos n) (λ e. absurd cc) f)

mem_size_piece : (n : ℕ) (b : Bool) → n == 0 ≡ b → n < 2 ^ 31 → Piece (count_option word.Size n 0) (flat_map mem_option_tokens (mem_list_of grammar.mem_size n 0))
mem_size_piece n true e f = rw e piece_none
mem_size_piece n false e f = rw e (number_piece word.Size (pos n) (λ e. absurd cc) f)

mem_offset_piece : (n : ℕ) (b : Bool) → n == 0 ≡ b → n < 2 ^ 31 → Piece (count_option word.Offset n 0) (flat_map mem_option_tokens (mem_list_of grammar.mem_offset n 0))
mem_offset_piece n true e f = rw e piece_none
mem_offset_piece n false e f = rw e (number_piece word.Offset (pos n) (λ e. absurd cc) f)

more_mem_options : (a b : List ℕ) (os ps : List MemOption) → Piece a (flat_map mem_option_tokens os) → Piece b (flat_map mem_option_tokens ps) → Piece (a ++ b) (flat_map mem_option_tokens (os ++ ps))
more_mem_options a b os ps p q = subst (λ (x : List Token). Piece (a ++ b) x) (sym (flat_map-append mem_option_tokens os ps)) (piece_then a b (flat_map mem_option_tokens os) (flat_map mem_option_tokens ps) p q)

mem_piece : (m : DocMem) → IsMemory m → Piece (memory_options m) (flat_map mem_option_tokens (mem_list m))
unfolding memory_options
mem_piece m f =
    let a = more_mem_options _ _ _ _ (mem_width_piece m.width (m.width == 1) refl f.width) (mem_size_piece m.size (m.size == 0) refl f.size) in
    more_mem_options _ _ _ _ a (mem_offset_piece m.offset (m.offset == 0) refl f.offset)

-- ---- lines

spaces : (d : Depth) → AreSpaces (indent d)
spaces depth.File = refl
spaces depth.Module = refl
spaces depth.Cell = refl

line_printed : (d : Depth) (w : Word) (rest : List ℕ) (ts : List Token) → IsNamed w → Piece rest ts → Printed (line d w rest) ((token.Word w ∷ ts) ∷ [])
unfolding line
line_printed d w rest ts h p = printed_line (indent d) (spelling (token.Word w) ++ rest) (token.Word w ∷ ts) (spaces d) (piece_then (spaced (token.Word w)) rest (token.Word w ∷ []) ts (word_piece w h) p)

abbrev lines_of : List Statement → List (List Token)
lines_of ss = map printed_tokens ss

attribute_printed : (d : Depth) (a : DocAttr) → Printable (says.Attribute a) → Printed (attribute_text d a) (printed_tokens (says.Attribute a) ∷ [])
attribute_printed d a p = line_printed d word.Attribute _ _ (λ e. absurd cc) (piece_then _ _ _ _ (name_piece a.name p.fits.0) (const_piece a.value p.fits.1))

parameter_printed : (d : Depth) (a : DocParam) → IsIdentifier a.name × ValueFits a.value → Printed (parameter_text d a) ((token.Word word.Parameter ∷ (flag_tokens a.flag ++ token.Id a.name ∷ value_tokens a.value)) ∷ [])
parameter_printed d a f =
    let named = piece_then (flag_text a.flag) (spaced (token.Id a.name)) (flag_tokens a.flag) (token.Id a.name ∷ []) (flag_piece a.flag) (name_piece a.name f.0) in
    let all = piece_then (flag_text a.flag ++ spaced (token.Id a.name)) (value_text a.value) (flag_tokens a.flag ++ token.Id a.name ∷ []) (value_tokens a.value) named (value_piece a.value f.1) in
    line_printed d word.Parameter _ _ (λ e. absurd cc)
    (subst (λ (x : List Token). Piece ((flag_text a.flag ++ spaced (token.Id a.name)) ++ value_text a.value) x) (append_assoc (flag_tokens a.flag) (token.Id a.name ∷ []) (value_tokens a.value)) all)

wire_printed : (w : DocWire) → Printable (says.Wire w) → Printed (line depth.Module word.Wire (wire_options w ++ spaced (token.Id w.name))) (printed_tokens (says.Wire w) ∷ [])
wire_printed w p = line_printed depth.Module word.Wire _ _ (λ e. absurd cc) (piece_then _ _ _ _ (wire_piece w p.fits.1) (name_piece w.name p.fits.0))

mem_printed : (m : DocMem) → Printable (says.Memory m) → Printed (line depth.Module word.Memory (memory_options m ++ spaced (token.Id m.name))) (printed_tokens (says.Memory m) ∷ [])
mem_printed m p = line_printed depth.Module word.Memory _ _ (λ e. absurd cc) (piece_then _ _ _ _ (mem_piece m p.fits.1) (name_piece m.name p.fits.0))

cell_begin_printed : (k n : List ℕ) → Printable (says.Cell k n) → Printed (line depth.Module word.Cell (spaced (token.Id k) ++ spaced (token.Id n))) (printed_tokens (says.Cell k n) ∷ [])
cell_begin_printed k n p = line_printed depth.Module word.Cell _ _ (λ e. absurd cc) (piece_then _ _ _ _ (name_piece k p.fits.0) (name_piece n p.fits.1))

connect_printed : (l r : List Part) → Printable (says.Connect l r) → Printed (line depth.Module word.Connect (signal_text l ++ signal_text r)) (printed_tokens (says.Connect l r) ∷ [])
connect_printed l r p = line_printed depth.Module word.Connect _ _ (λ e. absurd cc) (piece_then _ _ _ _ (signal_piece l p.fits.0) (signal_piece r p.fits.1))

cell_line_printed : (l : CellLine) → Printable (line_statement l) → Printed (cell_line_text l) (printed_tokens (line_statement l) ∷ [])
cell_line_printed (line_of.Param a) p = parameter_printed depth.Cell a p.fits
cell_line_printed (line_of.Pin n v) p = line_printed depth.Cell word.Connect _ _ (λ e. absurd cc) (piece_then _ _ _ _ (name_piece n p.fits.0) (signal_piece v p.fits.1))

end_printed : (d : Depth) → Printed (line d word.End []) (printed_tokens says.End ∷ [])
end_printed d = line_printed d word.End [] [] (λ e. absurd cc) piece_none

module_line_printed : (n : List ℕ) → Printable (says.Module n) → Printed (line depth.File word.Module (spaced (token.Id n))) (printed_tokens (says.Module n) ∷ [])
module_line_printed n p = line_printed depth.File word.Module _ _ (λ e. absurd cc) (name_piece n p.fits)

-- ---- statements

-- a line for each of some values
each_printed : {X : Type 0} (text : X → List ℕ) (of : X → Statement) → ((x : X) → Printable (of x) → Printed (text x) (printed_tokens (of x) ∷ [])) → (xs : List X) → AllOf Printable (map of xs) → Printed (flat_map text xs) (lines_of (map of xs))
each_printed text of each [] h = printed_none
each_printed text of each (x ∷ xs) h = printed_then (text x) (flat_map text xs) (printed_tokens (of x) ∷ []) (lines_of (map of xs)) (each x h.0) (each_printed text of each xs h.1)

both_printed : (a b : List ℕ) (ss us : List Statement) → Printed a (lines_of ss) → Printed b (lines_of us) → Printed (a ++ b) (lines_of (ss ++ us))
both_printed a b ss us p q = subst (λ (x : List (List Token)). Printed (a ++ b) x) (sym (map-append printed_tokens ss us)) (printed_then a b (lines_of ss) (lines_of us) p q)

-- lines for each of some values
flat_printed : {X : Type 0} (text : X → List ℕ) (of : X → List Statement) → ((x : X) → AllOf Printable (of x) → Printed (text x) (lines_of (of x))) → (xs : List X) → AllOf Printable (flat_map of xs) → Printed (flat_map text xs) (lines_of (flat_map of xs))
flat_printed text of each [] h = printed_none
flat_printed text of each (x ∷ xs) h =
    let r = all_parts Printable (of x) (flat_map of xs) h in
    both_printed (text x) (flat_map text xs) (of x) (flat_map of xs) (each x r.0) (flat_printed text of each xs r.1)

attributes_printed : (d : Depth) (attrs : List DocAttr) → AllOf Printable (attributes attrs) → Printed (attributes_text d attrs) (lines_of (attributes attrs))
attributes_printed d attrs h = each_printed (attribute_text d) (λ a. says.Attribute a) (attribute_printed d) attrs h

-- a block: attributes, a first line, what it holds, and its end
block_printed : (d : Depth) (attrs : List DocAttr) (first : Statement) (head body : List ℕ) (inside : List Statement) → Printed head (printed_tokens first ∷ []) → Printed body (lines_of inside) → AllOf Printable (attributes attrs)
    → Printed (((attributes_text d attrs ++ head) ++ body) ++ line d word.End []) (lines_of ((attributes attrs ++ first ∷ []) ++ (inside ++ says.End ∷ [])))
block_printed d attrs first head body inside p q h =
    let front = both_printed (attributes_text d attrs) head (attributes attrs) (first ∷ []) (attributes_printed d attrs h) p in
    let back = both_printed body (line d word.End []) inside (says.End ∷ []) q (end_printed d) in
    subst (λ (x : List ℕ). Printed x (lines_of ((attributes attrs ++ first ∷ []) ++ (inside ++ says.End ∷ [])))) (sym (append_assoc (attributes_text d attrs ++ head) body (line d word.End [])))
    (both_printed (attributes_text d attrs ++ head) (body ++ line d word.End []) (attributes attrs ++ first ∷ []) (inside ++ says.End ∷ []) front back)

cell_printed : (c : DocCell) → AllOf Printable (item_statements (item.Cell c)) → Printed (cell_text c) (lines_of (item_statements (item.Cell c)))
cell_printed c h =
    let r = all_parts Printable (attributes c.attrs ++ says.Cell c.kind c.name ∷ []) (map line_statement c.lines ++ says.End ∷ []) h in
    let front = all_parts Printable (attributes c.attrs) (says.Cell c.kind c.name ∷ []) r.0 in
    let back = all_parts Printable (map line_statement c.lines) (says.End ∷ []) r.1 in
    block_printed depth.Module c.attrs (says.Cell c.kind c.name) _ _ (map line_statement c.lines) (cell_begin_printed c.kind c.name front.1.0) (each_printed cell_line_text line_statement cell_line_printed c.lines back.0) front.0

item_printed : (i : Item) → AllOf Printable (item_statements i) → Printed (item_text i) (lines_of (item_statements i))
unfolding wire_options memory_options
item_printed (item.Param a) h = parameter_printed depth.Module a h.0.fits
item_printed (item.Wire w) h =
    let bare : DocWire = record w { attrs = [] } in
    let r = all_parts Printable (attributes w.attrs) (says.Wire bare ∷ []) h in
    both_printed _ _ (attributes w.attrs) (says.Wire bare ∷ []) (attributes_printed depth.Module w.attrs r.0) (wire_printed bare r.1.0)
item_printed (item.Mem m) h =
    let bare : DocMem = record m { attrs = [] } in
    let r = all_parts Printable (attributes m.attrs) (says.Memory bare ∷ []) h in
    both_printed _ _ (attributes m.attrs) (says.Memory bare ∷ []) (attributes_printed depth.Module m.attrs r.0) (mem_printed bare r.1.0)
item_printed (item.Cell c) h = cell_printed c h
item_printed (item.Connect l r) h = connect_printed l r h.0

module_printed : (m : DocModule) → AllOf Printable (module_statements m) → Printed (module_text m) (lines_of (module_statements m))
module_printed m h =
    let r = all_parts Printable (attributes m.attrs ++ says.Module m.name ∷ []) (flat_map item_statements m.items ++ says.End ∷ []) h in
    let front = all_parts Printable (attributes m.attrs) (says.Module m.name ∷ []) r.0 in
    let back = all_parts Printable (flat_map item_statements m.items) (says.End ∷ []) r.1 in
    block_printed depth.File m.attrs (says.Module m.name) _ _ (flat_map item_statements m.items) (module_line_printed m.name front.1.0) (flat_printed item_text item_statements item_printed m.items back.0) front.0

document_printed : (d : Doc) → AllOf Printable (flat_map module_statements d.modules) → Printed (printed d) (lines_of (flat_map module_statements d.modules))
unfolding printed
document_printed d h = flat_printed module_text module_statements module_printed d.modules h

-- ---- documents

line_counts : (s : Statement) (ts : List Token) → Says s ts → nonblank ts ≡ ts ∷ []
line_counts s ts (autoidx z) = refl
line_counts s ts (attribute a) = refl
line_counts s ts (module_line n) = refl
line_counts s ts (parameter n v) = refl
line_counts s ts (wire_line os n) = refl
line_counts s ts (memory os n) = refl
line_counts s ts (cell k n) = refl
line_counts s ts (connect p q) = refl
line_counts s ts (cell_parameter f n c) = refl
line_counts s ts (pin n p) = refl
line_counts s ts end = refl

lines_count : (ss : List Statement) → AllOf Printable ss → written (lines_of ss) ≡ lines_of ss
lines_count [] h = refl
lines_count (s ∷ ss) h = ap (λ (x : List (List Token)). x ++ written (lines_of ss)) (line_counts s (printed_tokens s) h.0.says) ∙ ap (λ (x : List (List Token)). printed_tokens s ∷ x) (lines_count ss h.1)

each_says : (ss : List Statement) → AllOf Printable ss → EachSays ss (lines_of ss)
each_says [] h = no_lines
each_says (s ∷ ss) h = more_lines h.0.says (each_says ss h.1)

ends_blank : (tss : List (List Token)) → EndsBlank (tss ++ [] ∷ [])
ends_blank [] = refl
ends_blank (ts ∷ []) = refl
ends_blank (ts ∷ us ∷ tss) = ends_blank (us ∷ tss)

-- a well-formed document is read from its printed text
pub printed_reads : (d : Doc) → IsWellFormed d → Reads (printed d) d
printed_reads d w =
    let ss = flat_map module_statements d.modules in
    let h = all_printable ss w.statements in
    let is : token_lines (printed d) ≡ lines_of ss ++ [] ∷ [] = printed_whole (printed d) (lines_of ss) (document_printed d h) in
    let counted : written (token_lines (printed d)) ≡ lines_of ss = ap written is ∙ flat_map-append nonblank (lines_of ss) ([] ∷ []) ∙ append-nil (written (lines_of ss)) ∙ lines_count ss h in
    record {
      ends = subst EndsBlank (sym is) (ends_blank (lines_of ss));
      spelled = record {
        autoidx = false;
        statements = ss;
        lines = subst (λ (x : List (List Token)). EachSays ss x) (sym counted) (each_says ss h);
        order = modules_alone d.modules;
        names = w.names;
      };
    }

-- what some text reads as is read from its printed text too
pub reads_again : (d : Doc) → Writable d → Reads (printed d) d
reads_again d w = printed_reads d (read_well_formed w.0 d w.1)
