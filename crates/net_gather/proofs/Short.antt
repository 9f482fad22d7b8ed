-- No pin has more bits than the pins of a module may have together.
use Rattle.std.proofs.Common.{◌≡◌, ℕ, ◌+◌, ◌≤◌, Bool, true, false, cond, ◌&&◌, List, [], ◌∷◌, ◌++◌, length, codes, refl, sym, ◌∙◌, arith}
use Rattle.std.specs.List.{sum_by}
use Rattle.std.specs.Str.{bytes_eq}
use Rattle.std.proofs.lemmas.List.Sums.{sum_by-cons}
use Rattle.rtlil_text.specs.declared.doc.CellLine.{CellLine}
use Rattle.rtlil_text.specs.declared.doc.DocCell.{DocCell}
use Rattle.rtlil_text.specs.declared.doc.Item.{Item}
use Rattle.rtlil_text.specs.declared.doc.Item.TheVariants as item
use Rattle.rtlil_text.specs.Grammar.{All}
use Rattle.net_core.specs.declared.mems.Attr.{Attr}
use Rattle.cell_rows.specs.declared.pin.PinRow.{PinRow}
use Rattle.doc_params.specs.Docs.{params_of}
use Rattle.mem_rows.specs.declared.row.MemRow.TheVariants as memory
use Rattle.mem_rows.specs.declared.separate.PortRow.{PortRow}
use Rattle.mem_rows.specs.Pins.{old_read_pins, read_pins, write_pins}
use Rattle.net_wires.specs.Settled.{settled}
use Rattle.net_wires.specs.Spans.{Entry}
use Rattle.net_gather.specs.declared.counts.Counts.{Counts}
use Rattle.net_gather.specs.declared.open_pin.OpenPin.{OpenPin}
use Rattle.net_gather.specs.declared.open_pin.PinBits.{PinBits}
use Rattle.net_gather.specs.declared.open_pin.PinBits.TheVariants.{Given, LeftOut}
use Rattle.raw_cells.specs.declared.raw.RawCell.{RawCell}
use Rattle.raw_cells.specs.declared.raw.RawPin.{RawPin}
use Rattle.raw_cells.specs.declared.row.CellRow.{CellRow}
use Rattle.raw_cells.specs.declared.row.CellRow.TheVariants as row
use Rattle.raw_cells.specs.declared.row.Found.{Found}
use Rattle.raw_cells.specs.declared.row.Found.TheVariants as found_as
use Rattle.net_gather.specs.Cells.{Context, found_faults, found_gain, kind_in, pin_faults, row_faults, row_gain, row_pins}
use Rattle.net_gather.specs.Counts.{count_breaches, has_long_address, pin_size, pins_size, row_limits}
use Rattle.net_gather.specs.Faults.{at, limit_breaches}
use Rattle.net_gather.specs.FilePins.{file_breaches, file_pins}
use Rattle.net_gather.specs.Gather.{cell_faults, counted, gained, item_breaches, item_gain, raw_cells}
use Rattle.net_gather.specs.Laws.{IsFoundIn}
use Rattle.net_gather.specs.OpenPins.{bits_of, bits_open, bits_size, found_bits, in_file, open_count, raw_pins, table_pins}
use Rattle.raw_cells.specs.Rows.{found_row, table_of}
use Rattle.net_gather.proofs.Few.{limit_kept}
use Rattle.net_gather.proofs.Fitting.{at_none, found_width, front_none, length_settled, many, mem_found, rest_none}

abbrev most : ℕ
most = 16777216

abbrev OpenShort : List OpenPin → Type 0
OpenShort ps = All (λ (p : OpenPin). bits_size p.bits ≤ most) ps

abbrev RawShort : List RawPin → Type 0
RawShort ps = All (λ (p : RawPin). length p.bits ≤ most) ps

sizes_are : (b : PinBits) → length (bits_of b) ≡ bits_size b
sizes_are (Given ss) = refl
sizes_are (LeftOut width) = many width

raw_short : (n : ℕ) (ps : List OpenPin) → OpenShort ps → RawShort (raw_pins n ps)
raw_short n [] h = tt
raw_short n (p ∷ ps) h =
    let same : length (settled n (bits_of p.bits)) ≡ bits_size p.bits = length_settled n (bits_of p.bits) ∙ sizes_are p.bits in
    let first : bits_size p.bits ≤ most = h.0 in
    (omega (arith, same, first), raw_short (n + bits_open p.bits) ps h.1)

each_within : (f : OpenPin → ℕ) (ps : List OpenPin) → sum_by f ps ≤ most → All (λ (p : OpenPin). f p ≤ most) ps
each_within f [] h = tt
each_within f (p ∷ ps) h = (omega (arith, h, sum_by-cons f p ps), each_within f ps (omega (arith, h, sum_by-cons f p ps)))

-- an address that counts as 32 bits has no more
abbrev AddressShort : Bool → List OpenPin → Type 0
AddressShort long ps = All (λ (p : OpenPin). (long && bytes_eq p.name (codes "\\ADDR")) ≡ true → bits_size p.bits ≤ most) ps

size_case : (t : Bool) (size : ℕ) → cond t 32 size ≤ most → (t ≡ true → size ≤ most) → size ≤ most
size_case true size h g = g refl
size_case false size h g = h

all_short : (long : Bool) (ps : List OpenPin) → All (λ (p : OpenPin). pin_size long p ≤ most) ps → AddressShort long ps → OpenShort ps
all_short long [] h g = tt
all_short long (p ∷ ps) h g = (size_case (long && bytes_eq p.name (codes "\\ADDR")) (bits_size p.bits) h.0 g.0, all_short long ps h.1 g.1)

no_address : (ps : List OpenPin) → AddressShort false ps
no_address [] = tt
no_address (p ∷ ps) = (λ e. absurd cc, no_address ps)

abbrev RowsShort : List PinRow → Type 0
RowsShort rs = All (λ (r : PinRow). bytes_eq r.name (codes "\\ADDR") ≡ true → r.width ≤ 32) rs

address_short : (names : List Entry) (table rs : List PinRow) (ls : List CellLine) → file_breaches names table ls ≡ [] → IsFoundIn table rs → RowsShort rs → AddressShort true (table_pins (file_pins names ls) rs)
address_short names table [] ls e found short = tt
address_short names table (r ∷ rs) ls e found short =
    let bits = found_bits (in_file (file_pins names ls) r.name) r.width in
    let width : bits_size bits ≡ r.width = sym (sizes_are bits) ∙ found_width names table r.name r ls e found.0 in
    ((λ same. (let few : r.width ≤ 32 = short.0 same in omega (arith, width, few))), address_short names table rs ls e found.1 short.1)

read_short : (r : PortRow) → r.abits ≤ 32 → RowsShort (read_pins r)
unfolding read_pins old_read_pins
read_short r h = (λ e. absurd (let f : false ≡ true = e in cc), (λ e. absurd (let f : false ≡ true = e in cc), (λ e. h, (λ e. absurd (let f : false ≡ true = e in cc), (λ e. absurd (let f : false ≡ true = e in cc), (λ e. absurd (let f : false ≡ true = e in cc), tt))))))

old_read_short : (r : PortRow) → r.abits ≤ 32 → RowsShort (old_read_pins r)
unfolding old_read_pins
old_read_short r h = (λ e. absurd (let f : false ≡ true = e in cc), (λ e. absurd (let f : false ≡ true = e in cc), (λ e. h, (λ e. absurd (let f : false ≡ true = e in cc), tt))))

write_short : (r : PortRow) → r.abits ≤ 32 → RowsShort (write_pins r)
unfolding write_pins
write_short r h = (λ e. absurd (let f : false ≡ true = e in cc), (λ e. absurd (let f : false ≡ true = e in cc), (λ e. h, (λ e. absurd (let f : false ≡ true = e in cc), tt))))

row_short : (x : Context) (st : Counts) (c : DocCell) (r : CellRow) → file_breaches x.names (table_of x.library r) c.lines ≡ [] → row_limits x.memory st.reads st.writes r ≡ [] → AddressShort (has_long_address r) (row_pins x c r)
unfolding row_pins
row_short x st c (row.Comb q) e l = no_address _
row_short x st c (row.Reg q) e l = no_address _
row_short x st c (row.Memory (memory.Whole q)) e l = no_address _
row_short x st c (row.Memory (memory.Read q)) e l = address_short x.names (read_pins q) (read_pins q) c.lines e (mem_found (memory.Read q)) (read_short q (limit_kept 32 q.abits (front_none _ _ l)))
row_short x st c (row.Memory (memory.OldRead q)) e l = address_short x.names (old_read_pins q) (old_read_pins q) c.lines e (mem_found (memory.OldRead q)) (old_read_short q (limit_kept 32 q.abits (front_none _ _ l)))
row_short x st c (row.Memory (memory.Write q)) e l = address_short x.names (write_pins q) (write_pins q) c.lines e (mem_found (memory.Write q)) (write_short q (limit_kept 32 q.abits (front_none _ _ l)))
row_short x st c (row.Memory (memory.Init q)) e l = no_address _
row_short x st c (row.Ram u) e l = no_address _
row_short x st c row.StrangeRam e l = no_address _
row_short x st c row.Kept e l = no_address _

abbrev CellsShort : List RawCell → Type 0
CellsShort cs = All (λ (c : RawCell). RawShort c.pins) cs

found_short : (x : Context) (st : Counts) (c : DocCell) (params : List Attr) (f : Found) → found_faults x st c params f ≡ [] → CellsShort (gained (found_gain x st c params f))
unfolding row_gain row_faults pin_faults
found_short x st c params found_as.Unknown e = tt
found_short x st c params found_as.Missing e = tt
found_short x st c params (found_as.Row r) e =
    let counts : count_breaches x.memory st r (row_pins x c r) ≡ [] = rest_none _ _ e in
    let behind : limit_breaches most (st.pin_bits + pins_size (has_long_address r) (row_pins x c r)) ++ row_limits x.memory st.reads st.writes r ≡ [] = rest_none (limit_breaches 4194304 (st.places + open_count (row_pins x c r))) _ counts in
    let sum : pins_size (has_long_address r) (row_pins x c r) ≤ most = omega (arith, limit_kept most (st.pin_bits + pins_size (has_long_address r) (row_pins x c r)) (front_none _ _ behind)) in
    let files : file_breaches x.names (table_of x.library r) c.lines ≡ [] = front_none _ _ (front_none _ _ e) in
    let limits : row_limits x.memory st.reads st.writes r ≡ [] = rest_none (limit_breaches most (st.pin_bits + pins_size (has_long_address r) (row_pins x c r))) _ behind in
    (raw_short st.places (row_pins x c r) (all_short (has_long_address r) (row_pins x c r) (each_within (pin_size (has_long_address r)) (row_pins x c r) sum) (row_short x st c r files limits)), tt)

item_short : (x : Context) (st : Counts) (i : Item) → item_breaches x st i ≡ [] → CellsShort (gained (item_gain x st i))
item_short x st (item.Wire w) e = tt
item_short x st (item.Param p) e = tt
item_short x st (item.Mem m) e = tt
item_short x st (item.Cell c) e = found_short x st c (params_of c.lines) (found_row x.library (kind_in x c.kind) (params_of c.lines)) e
item_short x st (item.Connect l r) e = tt

both : (xs ys : List RawCell) → CellsShort xs → CellsShort ys → CellsShort (xs ++ ys)
both [] ys a b = b
both (x ∷ xs) ys a b = (a.0, both xs ys a.1 b)

pub pins_short : (x : Context) (k : ℕ) (st : Counts) (is : List Item) → cell_faults x k st is ≡ [] → CellsShort (raw_cells x st is)
pins_short x k st [] e = tt
pins_short x k st (i ∷ is) e =
    let next = counted st (item_gain x st i) in
    both (gained (item_gain x st i)) (raw_cells x next is)
    (item_short x st i (at_none k (item_breaches x st i) (front_none (at k (item_breaches x st i)) (cell_faults x (k + 1) next is) e)))
    (pins_short x (k + 1) next is (rest_none (at k (item_breaches x st i)) (cell_faults x (k + 1) next is) e))
