-- The places that stand in pins: below their number, and those behind the wires each once, in order.
use Rattle.std.proofs.Common.{◌≡◌, ℕ, zero, suc, ◌+◌, ◌<◌, ◌≤◌, Bool, true, false, cond, nat_lt, List, [], ◌∷◌, ◌++◌, replicate, Option, Some, None, refl, sym, ap, subst, ◌∙◌, append_assoc, append-nil, arith}
use Rattle.std.specs.Str.{bytes_eq}
use Rattle.std.proofs.lemmas.List.Sums.{sum_by-cons}
use Rattle.rtlil_text.specs.declared.doc.CellLine.{CellLine}
use Rattle.rtlil_text.specs.declared.doc.CellLine.TheVariants as line
use Rattle.rtlil_text.specs.declared.doc.DocCell.{DocCell}
use Rattle.rtlil_text.specs.declared.doc.Item.{Item}
use Rattle.rtlil_text.specs.declared.doc.Item.TheVariants as item
use Rattle.rtlil_text.specs.Grammar.{All}
use Rattle.net_core.specs.declared.mems.Attr.{Attr}
use Rattle.cell_rows.specs.declared.pin.PinRow.{PinRow}
use Rattle.doc_params.specs.Docs.{params_of}
use Rattle.net_wires.specs.declared.source.Source.{Source}
use Rattle.net_wires.specs.declared.source.Source.TheVariants as source
use Rattle.net_wires.specs.Links.{IsWithin, SourcesWithin}
use Rattle.net_wires.specs.Settled.{loose_count, settled}
use Rattle.net_wires.specs.Spans.{Entry, There}
use Rattle.net_wires.proofs.Reach.{signal_in}
use Rattle.net_gather.specs.declared.counts.Counts.{Counts}
use Rattle.net_gather.specs.declared.cell.Gain.{Gain}
use Rattle.net_gather.specs.declared.file_pin.FilePin.{FilePin}
use Rattle.net_gather.specs.declared.open_pin.OpenPin.{OpenPin}
use Rattle.net_gather.specs.declared.open_pin.PinBits.{PinBits}
use Rattle.net_gather.specs.declared.open_pin.PinBits.TheVariants.{Given, LeftOut}
use Rattle.raw_cells.specs.declared.raw.RawCell.{RawCell}
use Rattle.raw_cells.specs.declared.raw.RawPin.{RawPin}
use Rattle.raw_cells.specs.declared.row.CellRow.{CellRow}
use Rattle.raw_cells.specs.declared.row.Found.{Found}
use Rattle.raw_cells.specs.declared.row.Found.TheVariants as found_as
use Rattle.net_gather.specs.Cells.{Context, found_gain, kind_in, row_gain, row_pins}
use Rattle.net_gather.specs.FilePins.{file_pins}
use Rattle.net_gather.specs.Gather.{counted, counts_of, gained, item_gain, raw_cells}
use Rattle.net_gather.specs.Laws.{cells_bits, CellsWithin, numbers_from, pins_bits, places_from}
use Rattle.net_gather.specs.OpenPins.{bits_of, bits_open, found_bits, in_file, kept_pins, open_count, raw_pins, table_pins}
use Rattle.raw_cells.specs.Rows.{found_row, is_kept, table_of}

-- ---- bits among the first places

one_more : (a b : ℕ) (s : Source) → a ≤ b → IsWithin a s → IsWithin b s
one_more a b source.Zero h w = tt
one_more a b source.One h w = tt
one_more a b source.Loose h w = tt
one_more a b (source.At p) h w = omega (arith, h, w)

more : (a b : ℕ) (ss : List Source) → a ≤ b → SourcesWithin a ss → SourcesWithin b ss
more a b [] h w = tt
more a b (s ∷ ss) h w = (one_more a b s h w.0, more a b ss h w.1)

bits_within : (b n : ℕ) (ss : List Source) → b ≤ n → SourcesWithin b ss → SourcesWithin (n + loose_count ss) (settled n ss)
bits_within b n [] h w = tt
bits_within b n (source.Zero ∷ ss) h w = (tt, bits_within b n ss h w.1)
bits_within b n (source.One ∷ ss) h w = (tt, bits_within b n ss h w.1)
bits_within b n (source.At p ∷ ss) h w = (let q : p < b = w.0 in omega (arith, h, q), bits_within b n ss h w.1)
bits_within b n (source.Loose ∷ ss) h w =
    let e : n + 1 + loose_count ss ≡ n + (1 + loose_count ss) = omega arith in
    (omega arith, subst (λ k. SourcesWithin k (settled (n + 1) ss)) e (bits_within b (n + 1) ss (omega (arith, h)) w.1))

loose_within : (b width : ℕ) → SourcesWithin b (replicate width source.Loose)
loose_within b zero = tt
loose_within b (suc k) = (tt, loose_within b k)

loose_many : (width : ℕ) → loose_count (replicate width source.Loose) ≡ width
loose_many zero = refl
loose_many (suc k) = let e : 1 + k ≡ suc k = omega arith in ap (λ n. 1 + n) (loose_many k) ∙ e

-- ---- pins

abbrev pub BitsWithin : ℕ → PinBits → Type 0
BitsWithin b (Given ss) = SourcesWithin b ss
BitsWithin b (LeftOut width) = Unit {0}

abbrev pub PinsWithin : ℕ → List OpenPin → Type 0
PinsWithin b ps = All (λ (p : OpenPin). BitsWithin b p.bits) ps

abbrev FileWithin : ℕ → List FilePin → Type 0
FileWithin b ps = All (λ (p : FilePin). SourcesWithin b p.bits) ps

pin_bits_within : (b : ℕ) (bits : PinBits) → BitsWithin b bits → SourcesWithin b (bits_of bits)
pin_bits_within b (Given ss) w = w
pin_bits_within b (LeftOut width) w = loose_within b width

pin_bits_open : (bits : PinBits) → loose_count (bits_of bits) ≡ bits_open bits
pin_bits_open (Given ss) = refl
pin_bits_open (LeftOut width) = loose_many width

placed_within : (b n : ℕ) (bits : PinBits) → b ≤ n → BitsWithin b bits → SourcesWithin (n + bits_open bits) (settled n (bits_of bits))
placed_within b n bits h w = subst (λ k. SourcesWithin (n + k) (settled n (bits_of bits))) (pin_bits_open bits) (bits_within b n (bits_of bits) h (pin_bits_within b bits w))

abbrev RawWithin : ℕ → List RawPin → Type 0
RawWithin n ps = All (λ (p : RawPin). SourcesWithin n p.bits) ps

raw_more : (a b : ℕ) (ps : List RawPin) → a ≤ b → RawWithin a ps → RawWithin b ps
raw_more a b [] h w = tt
raw_more a b (p ∷ ps) h w = (more a b p.bits h w.0, raw_more a b ps h w.1)

raw_within : (b n : ℕ) (ps : List OpenPin) → b ≤ n → PinsWithin b ps → RawWithin (n + open_count ps) (raw_pins n ps)
raw_within b n [] h w = tt
raw_within b n (p ∷ ps) h w =
    let all : open_count (p ∷ ps) ≡ bits_open p.bits + open_count ps = sum_by-cons (λ (q : OpenPin). bits_open q.bits) p ps in
    let whole : n + bits_open p.bits + open_count ps ≡ n + open_count (p ∷ ps) = omega (arith, all) in (
      more (n + bits_open p.bits) (n + open_count (p ∷ ps)) (settled n (bits_of p.bits)) (omega (arith, all)) (placed_within b n p.bits h w.0),
      subst (λ k. RawWithin k (raw_pins (n + bits_open p.bits) ps)) whole (raw_within b (n + bits_open p.bits) ps (omega (arith, h)) w.1),
    )

-- the pins that the file gives
lines_within : (b : ℕ) (names : List Entry) (ls : List CellLine) → There b names → FileWithin b (file_pins names ls)
lines_within b names [] t = tt
lines_within b names (line.Param p ∷ ls) t = lines_within b names ls t
lines_within b names (line.Pin n v ∷ ls) t = (signal_in b names v t, lines_within b names ls t)

kept_within : (b : ℕ) (drives : List ℕ → Bool) (ps : List FilePin) → FileWithin b ps → PinsWithin b (kept_pins drives ps)
kept_within b drives [] w = tt
kept_within b drives (p ∷ ps) w = (w.0, kept_within b drives ps w.1)

found_step : (b width : ℕ) (test : Bool) (p : FilePin) (o : Option FilePin) → SourcesWithin b p.bits → BitsWithin b (found_bits o width) → BitsWithin b (found_bits (cond test (Some p) o) width)
found_step b width true p o w v = w
found_step b width false p o w v = v

found_within : (b width : ℕ) (name : List ℕ) (ps : List FilePin) → FileWithin b ps → BitsWithin b (found_bits (in_file ps name) width)
found_within b width name [] w = tt
found_within b width name (p ∷ ps) w = found_step b width (bytes_eq p.name name) p (in_file ps name) w.0 (found_within b width name ps w.1)

table_within : (b : ℕ) (ps : List FilePin) (table : List PinRow) → FileWithin b ps → PinsWithin b (table_pins ps table)
table_within b ps [] w = tt
table_within b ps (r ∷ rs) w = (found_within b r.width r.name ps w, table_within b ps rs w)

ordered_within : (b : ℕ) (kept : Bool) (drives : List ℕ → Bool) (ps : List FilePin) (table : List PinRow) → FileWithin b ps → PinsWithin b (cond kept (kept_pins drives ps) (table_pins ps table))
ordered_within b true drives ps table w = kept_within b drives ps w
ordered_within b false drives ps table w = table_within b ps table w

pub row_within : (b : ℕ) (x : Context) (c : DocCell) (r : CellRow) → There b x.names → PinsWithin b (row_pins x c r)
unfolding row_pins
row_within b x c r t = ordered_within b (is_kept r) (x.drives c.kind) (file_pins x.names c.lines) (table_of x.library r) (lines_within b x.names c.lines t)

-- ---- places in order

below : (a b : ℕ) → a < b → nat_lt a b ≡ true
below a b h = grind (arith, h)

not_below : (a b : ℕ) → b ≤ a → nat_lt a b ≡ false
not_below a b h = grind (arith, h)

numbers_first : (n k : ℕ) → numbers_from n (1 + k) ≡ n ∷ numbers_from (n + 1) k
numbers_first n k = let e : 1 + k ≡ suc k = omega arith in ap (numbers_from n) e

numbers_append : (n a c : ℕ) → numbers_from n (a + c) ≡ numbers_from n a ++ numbers_from (n + a) c
numbers_append n zero c = let e : zero + c ≡ c = omega arith in let f : n ≡ n + zero = omega arith in ap (numbers_from n) e ∙ ap (λ m. numbers_from m c) f
numbers_append n (suc a) c =
    let e : suc a + c ≡ suc (a + c) = omega arith in
    let f : n + 1 + a ≡ n + suc a = omega arith in
    ap (numbers_from n) e ∙ ap (λ ks. n ∷ ks) (numbers_append (n + 1) a c) ∙ ap (λ m. n ∷ (numbers_from (n + 1) a ++ numbers_from m c)) f

bits_order : (b n : ℕ) (ss : List Source) → b ≤ n → SourcesWithin b ss → places_from b (settled n ss) ≡ numbers_from n (loose_count ss)
bits_order b n [] h w = refl
bits_order b n (source.Zero ∷ ss) h w = bits_order b n ss h w.1
bits_order b n (source.One ∷ ss) h w = bits_order b n ss h w.1
bits_order b n (source.At p ∷ ss) h w = ap (λ (t : Bool). cond t (places_from b (settled n ss)) (p ∷ places_from b (settled n ss))) (below p b w.0) ∙ bits_order b n ss h w.1
bits_order b n (source.Loose ∷ ss) h w =
    ap (λ (t : Bool). cond t (places_from b (settled (n + 1) ss)) (n ∷ places_from b (settled (n + 1) ss))) (not_below n b h)
    ∙ ap (λ ks. n ∷ ks) (bits_order b (n + 1) ss (omega (arith, h)) w.1) ∙ sym (numbers_first n (loose_count ss))

at_step : (t : Bool) (p : ℕ) (xs ys : List ℕ) → cond t (xs ++ ys) (p ∷ (xs ++ ys)) ≡ cond t xs (p ∷ xs) ++ ys
at_step true p xs ys = refl
at_step false p xs ys = refl

places_append : (b : ℕ) (xs ys : List Source) → places_from b (xs ++ ys) ≡ places_from b xs ++ places_from b ys
places_append b [] ys = refl
places_append b (source.Zero ∷ xs) ys = places_append b xs ys
places_append b (source.One ∷ xs) ys = places_append b xs ys
places_append b (source.Loose ∷ xs) ys = places_append b xs ys
places_append b (source.At p ∷ xs) ys =
    ap (λ (ks : List ℕ). cond (nat_lt p b) ks (p ∷ ks)) (places_append b xs ys) ∙ at_step (nat_lt p b) p (places_from b xs) (places_from b ys)

pins_order : (b n : ℕ) (ps : List OpenPin) → b ≤ n → PinsWithin b ps → places_from b (pins_bits (raw_pins n ps)) ≡ numbers_from n (open_count ps)
pins_order b n [] h w = refl
pins_order b n (p ∷ ps) h w =
    let all : open_count (p ∷ ps) ≡ bits_open p.bits + open_count ps = sum_by-cons (λ (q : OpenPin). bits_open q.bits) p ps in
    let first : places_from b (settled n (bits_of p.bits)) ≡ numbers_from n (bits_open p.bits) = bits_order b n (bits_of p.bits) h (pin_bits_within b p.bits w.0) ∙ ap (numbers_from n) (pin_bits_open p.bits) in
    places_append b (settled n (bits_of p.bits)) (pins_bits (raw_pins (n + bits_open p.bits) ps))
    ∙ ap (λ (ks : List ℕ). ks ++ places_from b (pins_bits (raw_pins (n + bits_open p.bits) ps))) first
    ∙ ap (λ (ks : List ℕ). numbers_from n (bits_open p.bits) ++ ks) (pins_order b (n + bits_open p.bits) ps (omega (arith, h)) w.1)
    ∙ sym (ap (numbers_from n) all ∙ numbers_append n (bits_open p.bits) (open_count ps))

-- ---- cells

-- what a cell adds, and that its places are the next ones
pub record Step (b : ℕ) (st : Counts) (g : Option Gain) : Type 0 where
  pub count : ℕ
  pub next : (counted st g).places ≡ st.places + count
  pub within : CellsWithin (st.places + count) (gained g)
  pub order : places_from b (cells_bits (gained g)) ≡ numbers_from st.places count

no_step : (b : ℕ) (st : Counts) → Step b st None
no_step b st = record { count = 0; next = omega arith; within = tt; order = refl }

found_step_of : (b : ℕ) (x : Context) (st : Counts) (c : DocCell) (params : List Attr) (f : Found) → There b x.names → b ≤ st.places → Step b st (found_gain x st c params f)
unfolding row_gain
found_step_of b x st c params found_as.Unknown t h = no_step b st
found_step_of b x st c params found_as.Missing t h = no_step b st
found_step_of b x st c params (found_as.Row r) t h = record {
  count = open_count (row_pins x c r);
  next = refl;
  within = (raw_within b st.places (row_pins x c r) h (row_within b x c r t), tt);
  order = ap (places_from b) (append-nil (pins_bits (raw_pins st.places (row_pins x c r)))) ∙ pins_order b st.places (row_pins x c r) h (row_within b x c r t);
}

item_step : (b : ℕ) (x : Context) (st : Counts) (i : Item) → There b x.names → b ≤ st.places → Step b st (item_gain x st i)
item_step b x st (item.Wire w) t h = no_step b st
item_step b x st (item.Param p) t h = no_step b st
item_step b x st (item.Mem m) t h = no_step b st
item_step b x st (item.Cell c) t h = found_step_of b x st c (params_of c.lines) (found_row x.library (kind_in x c.kind) (params_of c.lines)) t h
item_step b x st (item.Connect l r) t h = no_step b st

cells_more : (a b : ℕ) (cs : List RawCell) → a ≤ b → CellsWithin a cs → CellsWithin b cs
cells_more a b [] h w = tt
cells_more a b (c ∷ cs) h w = (raw_more a b c.pins h w.0, cells_more a b cs h w.1)

cells_both : (n : ℕ) (xs ys : List RawCell) → CellsWithin n xs → CellsWithin n ys → CellsWithin n (xs ++ ys)
cells_both n [] ys v w = w
cells_both n (x ∷ xs) ys v w = (v.0, cells_both n xs ys v.1 w)

bits_both : (xs ys : List RawCell) → cells_bits (xs ++ ys) ≡ cells_bits xs ++ cells_bits ys
bits_both [] ys = refl
bits_both (x ∷ xs) ys = ap (λ (ss : List Source). pins_bits x.pins ++ ss) (bits_both xs ys) ∙ sym (append_assoc (pins_bits x.pins) (cells_bits xs) (cells_bits ys))

pub record Steps (b : ℕ) (x : Context) (st : Counts) (is : List Item) : Type 0 where
  pub count : ℕ
  pub next : (counts_of x st is).places ≡ st.places + count
  pub within : CellsWithin (st.places + count) (raw_cells x st is)
  pub order : places_from b (cells_bits (raw_cells x st is)) ≡ numbers_from st.places count

joined : (b : ℕ) (x : Context) (st : Counts) (i : Item) (is : List Item) → Step b st (item_gain x st i) → Steps b x (counted st (item_gain x st i)) is → Steps b x st (i ∷ is)
joined b x st i is s t =
    let g = item_gain x st i in
    let all : (counted st g).places + t.count ≡ st.places + (s.count + t.count) = omega (arith, s.next) in
    record {
      count = s.count + t.count;
      next = t.next ∙ all;
      within = cells_both (st.places + (s.count + t.count)) (gained g) (raw_cells x (counted st g) is)
          (cells_more (st.places + s.count) (st.places + (s.count + t.count)) (gained g) (omega arith) s.within)
          (subst (λ n. CellsWithin n (raw_cells x (counted st g) is)) all t.within);
      order = ap (places_from b) (bits_both (gained g) (raw_cells x (counted st g) is))
          ∙ places_append b (cells_bits (gained g)) (cells_bits (raw_cells x (counted st g) is))
          ∙ ap (λ (ks : List ℕ). ks ++ places_from b (cells_bits (raw_cells x (counted st g) is))) s.order
          ∙ ap (λ (ks : List ℕ). numbers_from st.places s.count ++ ks) (t.order ∙ ap (λ n. numbers_from n t.count) s.next)
          ∙ sym (numbers_append st.places s.count t.count);
    }

steps_of : (b : ℕ) (x : Context) (st : Counts) (is : List Item) → There b x.names → b ≤ st.places → Steps b x st is
steps_of b x st [] t h = record { count = 0; next = omega arith; within = tt; order = refl }
steps_of b x st (i ∷ is) t h =
    let s = item_step b x st i t h in
    joined b x st i is s (steps_of b x (counted st (item_gain x st i)) is t (omega (arith, h, s.next)))

pub places_within : (x : Context) (st : Counts) (is : List Item) → There st.places x.names → CellsWithin (counts_of x st is).places (raw_cells x st is)
places_within x st is t =
    let s = steps_of st.places x st is t (omega arith) in
    subst (λ n. CellsWithin n (raw_cells x st is)) (sym s.next) s.within

pub places_in_order : (x : Context) (st : Counts) (is : List Item) → There st.places x.names
    → (k : ℕ) × ((counts_of x st is).places ≡ st.places + k) × (places_from st.places (cells_bits (raw_cells x st is)) ≡ numbers_from st.places k)
places_in_order x st is t = let s = steps_of st.places x st is t (omega arith) in (s.count, s.next, s.order)
