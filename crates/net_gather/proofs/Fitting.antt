-- The pins of cells are those of their tables.
use Rattle.std.proofs.Common.{◌≡◌, ℕ, suc, ◌+◌, Bool, true, false, cond, List, [], ◌∷◌, ◌++◌, map, length, replicate, Option, Some, nat_eq, codes, refl, sym, ap, ◌∙◌, arith}
use Rattle.std.specs.Prelude.{◌==◌, if◌then◌else◌}
use Rattle.std.specs.Str.{bytes_eq}
use Rattle.std.proofs.lemmas.List.{length-replicate}
use Rattle.std.proofs.lemmas.Slice.Eq.{bytes_eq-Decides}
use Rattle.std.proofs.lemmas.Bool.Decides.{nat_tests}
use Rattle.lib_core.specs.declared.library.Library.{Library}
use Rattle.rtlil_text.specs.declared.doc.CellLine.{CellLine}
use Rattle.rtlil_text.specs.declared.doc.CellLine.TheVariants as line
use Rattle.rtlil_text.specs.declared.doc.DocCell.{DocCell}
use Rattle.rtlil_text.specs.declared.doc.Item.{Item}
use Rattle.rtlil_text.specs.declared.doc.Item.TheVariants as item
use Rattle.rtlil_text.specs.declared.doc.Part.{Part}
use Rattle.net_core.specs.declared.mems.Attr.{Attr}
use Rattle.cell_rows.specs.declared.comb.CombRow.{CombRow}
use Rattle.cell_rows.specs.declared.operands.Operands.{Operands}
use Rattle.cell_rows.specs.declared.operands.Operands.TheVariants.{One, Alike, Free, Shift, Mux, Pmux}
use Rattle.cell_rows.specs.declared.pin.PinRow.{PinRow}
use Rattle.cell_rows.specs.declared.reg.RegRow.{RegRow}
use Rattle.net_core.specs.Cells.{has_arst, has_enable, has_srst}
use Rattle.cell_rows.specs.Operands.{operands}
use Rattle.cell_rows.specs.Pins.{clock, comb_pins, input, output, pin_if, pins_by, reg_pins}
use Rattle.cell_rows.specs.Rows.{is_carried_row}
use Rattle.doc_params.specs.Docs.{attrs_of, params_of}
use Rattle.mem_rows.specs.declared.row.MemRow.{MemRow}
use Rattle.mem_rows.specs.declared.row.MemRow.TheVariants as memory
use Rattle.mem_rows.specs.declared.whole.WholeRow.{WholeRow}
use Rattle.mem_rows.specs.Pins.{init_pins, mem_pins, old_read_pins, ports_that_read, ports_that_write, read_clocks, read_pins, read_resets, read_words, write_pins}
use Rattle.net_wires.specs.declared.breach.Breach.{Breach}
use Rattle.net_wires.specs.declared.source.Source.{Source}
use Rattle.net_wires.specs.declared.source.Source.TheVariants as source
use Rattle.net_wires.specs.Connects.{width_breaches}
use Rattle.net_wires.specs.Parts.{signal_bits, signal_breaches}
use Rattle.net_wires.specs.Settled.{settled}
use Rattle.net_wires.specs.Spans.{Entry}
use Rattle.net_gather.specs.declared.counts.Counts.{Counts}
use Rattle.net_gather.specs.declared.file_pin.FilePin.{FilePin}
use Rattle.raw_cells.specs.declared.raw.CellShape.TheVariants as shape
use Rattle.raw_cells.specs.declared.raw.RawCell.{RawCell}
use Rattle.raw_cells.specs.declared.row.CellRow.{CellRow}
use Rattle.raw_cells.specs.declared.row.CellRow.TheVariants as row
use Rattle.raw_cells.specs.declared.row.Found.{Found}
use Rattle.raw_cells.specs.declared.row.Found.TheVariants as found_as
use Rattle.net_gather.specs.Cells.{Context, found_faults, found_gain, kind_in, pin_faults, row_faults, row_gain, row_pins, shape_of}
use Rattle.net_gather.specs.Faults.{at}
use Rattle.net_gather.specs.FilePins.{file_breaches, file_pins, in_table, pin_breaches, row_breaches}
use Rattle.net_gather.specs.Gather.{cell_faults, counted, gained, item_breaches, item_gain, raw_cells}
use Rattle.net_gather.specs.Laws.{CellsFit, FitsShape, FitsTable, IsFoundIn, ram_table, row_of_pin}
use Rattle.net_gather.specs.OpenPins.{bits_of, bits_open, found_bits, in_file, kept_pins, raw_pins, table_pins}
use Rattle.raw_cells.specs.Rows.{found_row, table_of}

-- ---- nothing in front, nothing behind

pub front_none : {X : Type 0} (xs ys : List X) → xs ++ ys ≡ [] → xs ≡ []
front_none [] ys e = refl
front_none (x ∷ xs) ys e = absurd cc

pub rest_none : {X : Type 0} (xs ys : List X) → xs ++ ys ≡ [] → ys ≡ []
rest_none [] ys e = e
rest_none (x ∷ xs) ys e = absurd cc

pub at_none : (i : ℕ) (bs : List Breach) → at i bs ≡ [] → bs ≡ []
at_none i [] e = refl
at_none i (b ∷ bs) e = absurd cc

-- ---- lengths

pub length_settled : (n : ℕ) (ss : List Source) → length (settled n ss) ≡ length ss
length_settled n [] = refl
length_settled n (source.Zero ∷ ss) = ap (λ k. suc k) (length_settled n ss)
length_settled n (source.One ∷ ss) = ap (λ k. suc k) (length_settled n ss)
length_settled n (source.At p ∷ ss) = ap (λ k. suc k) (length_settled n ss)
length_settled n (source.Loose ∷ ss) = ap (λ k. suc k) (length_settled (n + 1) ss)

pub many : (k : ℕ) → length (replicate k source.Loose) ≡ k
many k = length-replicate k source.Loose

pub test_holds : (t : Bool) (b : Breach) → cond t [] (b ∷ []) ≡ [] → t ≡ true
test_holds true b e = refl
test_holds false b e = absurd cc

same_width : (found wanted : ℕ) → width_breaches found wanted ≡ [] → found ≡ wanted
same_width found wanted e = let t : (found == wanted) ≡ true = test_holds (found == wanted) _ e in grind (arith, t, nat_tests)

-- ---- the pins that the file gives

found_case : (t : Bool) (p : FilePin) (o : Option FilePin) (width : ℕ) → (t ≡ true → length p.bits ≡ width) → length (bits_of (found_bits o width)) ≡ width → length (bits_of (found_bits (cond t (Some p) o) width)) ≡ width
found_case true p o width h e = h refl
found_case false p o width h e = e

given_width : (names : List Entry) (table : List PinRow) (n name : List ℕ) (v : List Part) (r : PinRow) → pin_breaches names table n v ≡ [] → in_table table name ≡ Some r → bytes_eq n name ≡ true → length (signal_bits names v) ≡ r.width
given_width names table n name v r e found same =
    let here : in_table table n ≡ Some r = ap (in_table table) ((bytes_eq-Decides n name).0 same) ∙ found in
    let none : row_breaches (in_table table n) (length (signal_bits names v)) ≡ [] = rest_none (signal_breaches names v) _ e in
    same_width (length (signal_bits names v)) r.width (sym (ap (λ (o : Option PinRow). row_breaches o (length (signal_bits names v))) here) ∙ none)

pub found_width : (names : List Entry) (table : List PinRow) (name : List ℕ) (r : PinRow) (ls : List CellLine) → file_breaches names table ls ≡ [] → in_table table name ≡ Some r
    → length (bits_of (found_bits (in_file (file_pins names ls) name) r.width)) ≡ r.width
found_width names table name r [] e found = many r.width
found_width names table name r (line.Param p ∷ ls) e found = found_width names table name r ls e found
found_width names table name r (line.Pin n v ∷ ls) e found =
    found_case (bytes_eq n name) (record { name = n; bits = signal_bits names v }) (in_file (file_pins names ls) name) r.width
    (λ same. given_width names table n name v r (front_none (pin_breaches names table n v) (file_breaches names table ls) e) found same)
    (found_width names table name r ls (rest_none (pin_breaches names table n v) (file_breaches names table ls) e) found)

fits : (names : List Entry) (table rs : List PinRow) (ls : List CellLine) (n : ℕ) → file_breaches names table ls ≡ [] → IsFoundIn table rs → FitsTable rs (raw_pins n (table_pins (file_pins names ls) rs))
fits names table [] ls n e found = refl
fits names table (r ∷ rs) ls n e found =
    let bits = found_bits (in_file (file_pins names ls) r.name) r.width in
    let width : length (settled n (bits_of bits)) ≡ r.width = length_settled n (bits_of bits) ∙ found_width names table r.name r ls e found.0 in
    let first : ◌≡◌ {A = PinRow} (record { name = r.name; width = length (settled n (bits_of bits)); drives = r.drives; clock = r.clock }) r = ap (λ w. record { name = r.name; width = w; drives = r.drives; clock = r.clock }) width in
    ap (λ (q : PinRow). q ∷ map row_of_pin (raw_pins (n + bits_open bits) (table_pins (file_pins names ls) rs))) first ∙ ap (λ (qs : List PinRow). r ∷ qs) (fits names table rs ls (n + bits_open bits) e found.1)

-- ---- no two pins of these tables have one name

by_found : (o : Operands) (q : CombRow) → IsFoundIn (pins_by o q) (pins_by o q)
by_found One q = (refl, (refl, tt))
by_found Alike q = (refl, (refl, (refl, tt)))
by_found Free q = (refl, (refl, (refl, tt)))
by_found Shift q = (refl, (refl, (refl, tt)))
by_found Mux q = (refl, (refl, (refl, (refl, tt))))
by_found Pmux q = (refl, (refl, (refl, (refl, tt))))

comb_found : (q : CombRow) → IsFoundIn (comb_pins q) (comb_pins q)
unfolding comb_pins
comb_found q = by_found (operands q.kind) q

abbrev reg_table : ℕ → Bool → Bool → Bool → List PinRow
reg_table w a s e =
    (clock (codes "\\CLK") ∷ input (codes "\\D") w ∷ output (codes "\\Q") w ∷ []) ++ pin_if a (codes "\\ARST") ++ pin_if s (codes "\\SRST") ++ pin_if e (codes "\\EN")

reg_case : (w : ℕ) (a s e : Bool) → IsFoundIn (reg_table w a s e) (reg_table w a s e)
reg_case w true true true = (refl, (refl, (refl, (refl, (refl, (refl, tt))))))
reg_case w true true false = (refl, (refl, (refl, (refl, (refl, tt)))))
reg_case w true false true = (refl, (refl, (refl, (refl, (refl, tt)))))
reg_case w true false false = (refl, (refl, (refl, (refl, tt))))
reg_case w false true true = (refl, (refl, (refl, (refl, (refl, tt)))))
reg_case w false true false = (refl, (refl, (refl, (refl, tt))))
reg_case w false false true = (refl, (refl, (refl, (refl, tt))))
reg_case w false false false = (refl, (refl, (refl, tt)))

reg_found : (q : RegRow) → IsFoundIn (reg_pins q) (reg_pins q)
unfolding reg_pins
reg_found q = reg_case q.controls.width (has_arst q.kind) (has_srst q.kind) (has_enable q.kind)

abbrev whole_table : WholeRow → Bool → Bool → List PinRow
whole_table q a b = (if a then [] else ports_that_read q) ++ (if b then [] else ports_that_write q)

whole_case : (q : WholeRow) (a b : Bool) → IsFoundIn (whole_table q a b) (whole_table q a b)
unfolding read_clocks read_resets read_words ports_that_write
whole_case q true true = tt
whole_case q true false = (refl, (refl, (refl, (refl, tt))))
whole_case q false true = (refl, (refl, (refl, (refl, (refl, (refl, tt))))))
whole_case q false false = (refl, (refl, (refl, (refl, (refl, (refl, (refl, (refl, (refl, (refl, tt))))))))))

pub mem_found : (q : MemRow) → IsFoundIn (mem_pins q) (mem_pins q)
unfolding old_read_pins read_pins write_pins init_pins
mem_found (memory.Whole q) = whole_case q (nat_eq q.reads 0) (nat_eq q.writes 0)
mem_found (memory.Read q) = (refl, (refl, (refl, (refl, (refl, (refl, tt))))))
mem_found (memory.OldRead q) = (refl, (refl, (refl, (refl, tt))))
mem_found (memory.Write q) = (refl, (refl, (refl, (refl, tt))))
mem_found (memory.Init q) = (refl, (refl, (refl, tt)))

-- ---- cells

comb_case : (x : Context) (c : DocCell) (params : List Attr) (q : CombRow) (n : ℕ) (kept : Bool) → file_breaches x.names (comb_pins q) c.lines ≡ []
    → FitsShape x.library (cond kept (shape.Carried (record { kind = c.kind; attrs = attrs_of c.attrs; params = params })) (shape.Comb q))
    (raw_pins n (cond kept (kept_pins (x.drives c.kind) (file_pins x.names c.lines)) (table_pins (file_pins x.names c.lines) (comb_pins q))))
comb_case x c params q n true e = tt
comb_case x c params q n false e = fits x.names (comb_pins q) (comb_pins q) c.lines n e (comb_found q)

row_fits : (x : Context) (c : DocCell) (params : List Attr) (r : CellRow) (n : ℕ) → file_breaches x.names (table_of x.library r) c.lines ≡ [] → FitsShape x.library (shape_of c params r) (raw_pins n (row_pins x c r))
unfolding row_pins
row_fits x c params (row.Comb q) n e = comb_case x c params q n (is_carried_row q) e
row_fits x c params (row.Reg q) n e = fits x.names (reg_pins q) (reg_pins q) c.lines n e (reg_found q)
row_fits x c params (row.Memory q) n e = fits x.names (mem_pins q) (mem_pins q) c.lines n e (mem_found q)
row_fits x c params (row.Ram u) n e = λ found. fits x.names (ram_table x.library u) (ram_table x.library u) c.lines n e found
row_fits x c params row.StrangeRam n e = tt
row_fits x c params row.Kept n e = tt

found_fits : (x : Context) (st : Counts) (c : DocCell) (params : List Attr) (f : Found) → found_faults x st c params f ≡ [] → CellsFit x.library (gained (found_gain x st c params f))
unfolding row_gain row_faults pin_faults
found_fits x st c params found_as.Unknown e = tt
found_fits x st c params found_as.Missing e = tt
found_fits x st c params (found_as.Row r) e = (row_fits x c params r st.places (front_none (file_breaches x.names (table_of x.library r) c.lines) _ (front_none _ _ e)), tt)

item_fits : (x : Context) (st : Counts) (i : Item) → item_breaches x st i ≡ [] → CellsFit x.library (gained (item_gain x st i))
item_fits x st (item.Wire w) e = tt
item_fits x st (item.Param p) e = tt
item_fits x st (item.Mem m) e = tt
item_fits x st (item.Cell c) e = found_fits x st c (params_of c.lines) (found_row x.library (kind_in x c.kind) (params_of c.lines)) e
item_fits x st (item.Connect l r) e = tt

both : (lib : Library) (xs ys : List RawCell) → CellsFit lib xs → CellsFit lib ys → CellsFit lib (xs ++ ys)
both lib [] ys a b = b
both lib (x ∷ xs) ys a b = (a.0, both lib xs ys a.1 b)

pub tables_fit : (x : Context) (k : ℕ) (st : Counts) (is : List Item) → cell_faults x k st is ≡ [] → CellsFit x.library (raw_cells x st is)
tables_fit x k st [] e = tt
tables_fit x k st (i ∷ is) e =
    let next = counted st (item_gain x st i) in
    both x.library (gained (item_gain x st i)) (raw_cells x next is)
    (item_fits x st i (at_none k (item_breaches x st i) (front_none (at k (item_breaches x st i)) (cell_faults x (k + 1) next is) e)))
    (tables_fit x (k + 1) next is (rest_none (at k (item_breaches x st i)) (cell_faults x (k + 1) next is) e))
