-- The RAM cells of a module with nothing wrong have no more slots than the pins of a module may have bits.
use Rattle.std.proofs.Common.{◌≡◌, ℕ, zero, suc, ◌+◌, ◌≤◌, ◌<◌, Bool, true, false, ◌||◌, List, [], ◌∷◌, ◌++◌, map, drop, length, Option, Some, None, refl, sym, ap, ◌∙◌, arith}
use Rattle.std.specs.Prelude.{if◌then◌else◌, nat_le, nat_lt}
use Rattle.std.specs.List.{sum_by}
use Rattle.std.proofs.lemmas.Bool.Decides.{nat_tests}
use Rattle.std.proofs.lemmas.List.{length-replicate}
use Rattle.std.proofs.lemmas.List.Sums.{sum_by-cons}
use Rattle.lib_core.specs.declared.library.Group.{Group}
use Rattle.lib_core.specs.declared.library.Library.{Library}
use Rattle.lib_core.specs.declared.library.PortKind.{PortKind}
use Rattle.lib_core.specs.declared.library.PortKind.TheVariants.{Ar, Sr, Sw, Arsw, Srsw}
use Rattle.lib_core.specs.declared.library.Variant.{Variant}
use Rattle.lib_core.specs.Rams.{kind_reads, kind_writes, width_at}
use Rattle.rtlil_text.specs.declared.doc.DocCell.{DocCell}
use Rattle.rtlil_text.specs.declared.doc.Item.{Item}
use Rattle.rtlil_text.specs.declared.doc.Item.TheVariants as item
use Rattle.rtlil_text.specs.Grammar.{All}
use Rattle.net_core.specs.declared.bits.Bit.{Bit}
use Rattle.net_core.specs.declared.mems.Attr.{Attr}
use Rattle.net_core.specs.declared.rams.RamCell.{RamCell}
use Rattle.cell_rows.specs.declared.comb.CombRow.{CombRow}
use Rattle.cell_rows.specs.declared.pin.PinRow.{PinRow}
use Rattle.cell_rows.specs.Rows.{is_carried_row}
use Rattle.net_wires.specs.declared.breach.Breach.{Breach}
use Rattle.net_wires.specs.declared.clock.ClockRoot.{ClockRoot}
use Rattle.net_wires.specs.declared.source.Source.{Source}
use Rattle.net_wires.specs.declared.source.Source.TheVariants as source
use Rattle.net_wires.specs.Settled.{settled}
use Rattle.ram_rows.specs.declared.pins.SlotPin.{SlotPin}
use Rattle.ram_rows.specs.declared.pins.SlotPin.TheVariants as pin
use Rattle.ram_rows.specs.declared.slots.SlotRow.{SlotRow}
use Rattle.ram_rows.specs.RamPins.{pin_at, pin_row, slot_pins, where_there}
use Rattle.ram_rows.specs.RamRows.{any_strange}
use Rattle.raw_cells.specs.declared.raw.CellShape.{CellShape}
use Rattle.raw_cells.specs.declared.raw.CellShape.TheVariants as shape
use Rattle.raw_cells.specs.declared.raw.Kept.{Kept}
use Rattle.raw_cells.specs.declared.raw.RamUse.{RamUse}
use Rattle.raw_cells.specs.declared.raw.RawCell.{RawCell}
use Rattle.raw_cells.specs.declared.raw.RawPin.{RawPin}
use Rattle.raw_cells.specs.declared.row.CellRow.{CellRow}
use Rattle.raw_cells.specs.declared.row.CellRow.TheVariants as row
use Rattle.raw_cells.specs.declared.row.Found.{Found}
use Rattle.raw_cells.specs.declared.row.Found.TheVariants as found_as
use Rattle.raw_cells.specs.RamCells.{groups_slots, names_slots, ram_of}
use Rattle.raw_cells.specs.Rows.{found_row, groups_pins, names_pins, variant_of, variant_pins}
use Rattle.net_gather.specs.declared.counts.Counts.{Counts}
use Rattle.net_gather.specs.declared.open_pin.OpenPin.{OpenPin}
use Rattle.net_gather.specs.declared.open_pin.PinBits.{PinBits}
use Rattle.net_gather.specs.declared.open_pin.PinBits.TheVariants.{Given, LeftOut}
use Rattle.net_gather.specs.Cells.{Context, found_faults, found_gain, kind_in, pin_faults, row_faults, row_gain, row_pins, shape_of}
use Rattle.net_gather.specs.Counts.{count_breaches, has_long_address, pin_size, pins_size, row_limits}
use Rattle.net_gather.specs.Faults.{at, limit_breach, limit_breaches}
use Rattle.net_gather.specs.Gather.{cell_faults, counted, gained, raw_cells}
use Rattle.net_gather.specs.Laws.{CellsFit, FitsShape, FitsTable, row_of_pin}
use Rattle.net_gather.specs.OpenPins.{bits_of, bits_open, bits_size, open_count, raw_pins}
use Rattle.doc_params.specs.Docs.{attrs_of, params_of}
use Rattle.net_module.specs.Assembly.{ram_by, ram_under, rams_of}
use Rattle.build_valid.specs.Libraries.{LibraryFits}
use Rattle.build_valid.proofs.Faultless.{none_left, none_right}
use Rattle.build_valid.proofs.RamCells.{ram_fits}
use Rattle.build_valid.proofs.RamsValid.{of_variant}
use Rattle.build_valid.proofs.Rising.{CellsRise, ShapeRises}

-- ---- rows of pins, by their widths

abbrev total : List PinRow → ℕ
total [] = 0
total (r ∷ rs) = r.width + total rs

total_joined : (xs ys : List PinRow) → total (xs ++ ys) ≡ total xs + total ys
total_joined [] ys = omega arith
total_joined (x ∷ xs) ys = let rest = total_joined xs ys in omega (arith, rest)

row_total : (n : List ℕ) (p : SlotPin) (there : Bool) (width : ℕ) → there ≡ true → width ≤ total (pin_row n p (where_there there width))
row_total n p true width e = omega arith
row_total n p false width e = absurd cc

reads_or_writes : (k : PortKind) → kind_reads k ≡ false → kind_writes k ≡ true
reads_or_writes Ar e = absurd cc
reads_or_writes Sr e = absurd cc
reads_or_writes Sw e = refl
reads_or_writes Arsw e = absurd cc
reads_or_writes Srsw e = absurd cc

-- a port has a pin for its data
data_case : (n : List ℕ) (reads writes : Bool) (width : ℕ) → (reads ≡ false → writes ≡ true) → width ≤ total (pin_row n pin.RdData (where_there reads width)) + total (pin_row n pin.WrData (where_there writes width))
data_case n true writes width f = (let h = row_total n pin.RdData true width refl in omega (arith, h))
data_case n false writes width f = (let h = row_total n pin.WrData writes width (f refl) in omega (arith, h))

ten_total : (a b c d e f g h i j : List PinRow) → total d + total h ≤ total (a ++ b ++ c ++ d ++ e ++ f ++ g ++ h ++ i ++ j)
ten_total a b c d e f g h i j =
    let j1 = total_joined a b in
    let j2 = total_joined (a ++ b) c in
    let j3 = total_joined (a ++ b ++ c) d in
    let j4 = total_joined (a ++ b ++ c ++ d) e in
    let j5 = total_joined (a ++ b ++ c ++ d ++ e) f in
    let j6 = total_joined (a ++ b ++ c ++ d ++ e ++ f) g in
    let j7 = total_joined (a ++ b ++ c ++ d ++ e ++ f ++ g) h in
    let j8 = total_joined (a ++ b ++ c ++ d ++ e ++ f ++ g ++ h) i in
    let j9 = total_joined (a ++ b ++ c ++ d ++ e ++ f ++ g ++ h ++ i) j in
    omega (arith, j1, j2, j3, j4, j5, j6, j7, j8, j9)

slot_total : (v : Variant) (g : Group) (level : ℕ) (n : List ℕ) → width_at v.widths level ≤ total (slot_pins v g level n)
unfolding slot_pins
slot_total v g level n =
    let some = data_case n (kind_reads g.kind) (kind_writes g.kind) (width_at v.widths level) (reads_or_writes g.kind) in
    let all = ten_total (pin_at v g level n pin.Clk) (pin_at v g level n pin.ClkEn) (pin_at v g level n pin.Addr) (pin_at v g level n pin.RdData) (pin_at v g level n pin.RdEn)
    (pin_at v g level n pin.RdSrst) (pin_at v g level n pin.RdArst) (pin_at v g level n pin.WrData) (pin_at v g level n pin.WrEn) (pin_at v g level n pin.WrBe) in
    omega (arith, some, all)

wide : (ws : List ℕ) (k : ℕ) → All (λ w. 0 < w) ws → k < length ws → 1 ≤ width_at ws k
wide [] k a h = absurd (omega (arith, h))
wide (w ∷ ws) zero a h = (let first = a.0 in omega (arith, first))
wide (w ∷ ws) (suc k) a h = wide ws k a.1 (omega (arith, h))

-- ---- slots and rows

or_parts : (a b : Bool) → (a || b) ≡ false → (a ≡ false) × (b ≡ false)
or_parts true b e = absurd cc
or_parts false b e = (refl, e)

below : (a b : ℕ) → nat_le a b ≡ false → b < a
below a b e = grind (arith, nat_tests)

none_drop : (levels k : ℕ) (rows : List SlotRow) → any_strange levels rows ≡ false → any_strange levels (drop k rows) ≡ false
none_drop levels zero rows e = e
none_drop levels (suc k) [] e = e
none_drop levels (suc k) (r ∷ rs) e = none_drop levels k rs (or_parts (nat_le levels r.level) (any_strange levels rs) e).1

long_joined : {X : Type 0} (xs ys : List X) → length (xs ++ ys) ≡ length xs + length ys
long_joined [] ys = omega arith
long_joined (x ∷ xs) ys = let rest = long_joined xs ys in omega (arith, rest)

module _ (v : Variant) (some : All (λ w. 0 < w) v.widths) (places : List Bit) (roots : List ClockRoot) (pins : List RawPin) where
  names_total : (g : Group) (ns : List (List ℕ)) (rows : List SlotRow) → any_strange (length v.widths) rows ≡ false → length (names_slots places roots pins g ns rows) ≤ total (names_pins v g ns rows)
  names_total g [] rows e = omega arith
  names_total g (n ∷ ns) [] e = omega arith
  names_total g (n ∷ ns) (r ∷ rs) e =
      let parts = or_parts (nat_le (length v.widths) r.level) (any_strange (length v.widths) rs) e in
      let one = wide v.widths r.level some (below (length v.widths) r.level parts.0) in
      let here = slot_total v g r.level n in
      let rest = names_total g ns rs parts.1 in
      let all = total_joined (slot_pins v g r.level n) (names_pins v g ns rs) in
      omega (arith, one, here, rest, all)

  groups_total : (gs : List Group) (rows : List SlotRow) → any_strange (length v.widths) rows ≡ false → length (groups_slots places roots pins gs rows) ≤ total (groups_pins v gs rows)
  groups_total [] rows e = omega arith
  groups_total (g ∷ gs) rows e =
      let here = names_total g g.names rows e in
      let rest = groups_total gs (drop (length g.names) rows) (none_drop (length v.widths) (length g.names) rows e) in
      let a = long_joined (names_slots places roots pins g g.names rows) (groups_slots places roots pins gs (drop (length g.names) rows)) in
      let b = total_joined (names_pins v g g.names rows) (groups_pins v gs (drop (length g.names) rows)) in
      omega (arith, here, rest, a, b)

  cell_total : (name : List ℕ) (u : RamUse) → any_strange (length v.widths) u.row.slots ≡ false → length (ram_of places roots name u v pins).slots ≤ total (groups_pins v v.groups u.row.slots)
  unfolding ram_of
  cell_total name u e = groups_total v.groups u.row.slots e

-- ---- bits of pins

abbrev pub pins_total : List RawPin → ℕ
pins_total [] = 0
pins_total (p ∷ ps) = length p.bits + pins_total ps

rows_of_pins : (ps : List RawPin) → total (map row_of_pin ps) ≡ pins_total ps
rows_of_pins [] = refl
rows_of_pins (p ∷ ps) = ap (λ k. length p.bits + k) (rows_of_pins ps)

table_total : (table : List PinRow) (ps : List RawPin) → FitsTable table ps → total table ≡ pins_total ps
table_total table ps fits = ap total (sym fits) ∙ rows_of_pins ps

-- what RAM cells have of the bits of pins
abbrev pub shape_total : CellShape → List RawPin → ℕ
shape_total (shape.Comb r) ps = 0
shape_total (shape.Reg r) ps = 0
shape_total (shape.Carried k) ps = 0
shape_total (shape.Memory k r) ps = 0
shape_total (shape.Ram u) ps = pins_total ps

abbrev pub cells_total : List RawCell → ℕ
cells_total [] = 0
cells_total (c ∷ cs) = shape_total c.shape c.pins + cells_total cs

length_settled : (n : ℕ) (ss : List Source) → length (settled n ss) ≡ length ss
length_settled n [] = refl
length_settled n (source.Zero ∷ ss) = ap (λ k. suc k) (length_settled n ss)
length_settled n (source.One ∷ ss) = ap (λ k. suc k) (length_settled n ss)
length_settled n (source.At p ∷ ss) = ap (λ k. suc k) (length_settled n ss)
length_settled n (source.Loose ∷ ss) = ap (λ k. suc k) (length_settled (n + 1) ss)

sizes_are : (b : PinBits) → length (bits_of b) ≡ bits_size b
sizes_are (Given ss) = refl
sizes_are (LeftOut width) = length-replicate width source.Loose

raw_total : (n : ℕ) (ps : List OpenPin) → pins_total (raw_pins n ps) ≡ pins_size false ps
raw_total n [] = refl
raw_total n (p ∷ ps) =
    let here : length (settled n (bits_of p.bits)) ≡ bits_size p.bits = length_settled n (bits_of p.bits) ∙ sizes_are p.bits in
    let rest = raw_total (n + bits_open p.bits) ps in
    let sum = sum_by-cons (pin_size false) p ps in
    omega (arith, here, rest, sum)

not_over : (t : Bool) (b : Breach) → (if t then b ∷ [] else []) ≡ [] → t ≡ false
not_over true b e = absurd cc
not_over false b e = refl

limit_kept : (limit found : ℕ) → limit_breaches limit found ≡ [] → found ≤ limit
unfolding limit_breaches
limit_kept limit found e = let t : nat_lt limit found ≡ false = not_over (nat_lt limit found) (limit_breach limit) e in grind (arith, t, nat_tests)

abbrev pub most : ℕ
most = 16777216

comb_total : (b : Bool) (k : Kept) (r : CombRow) (ps : List RawPin) → shape_total (if b then shape.Carried k else shape.Comb r) ps ≡ 0
comb_total true k r ps = refl
comb_total false k r ps = refl

row_weight : (c : DocCell) (params : List Attr) (r : CellRow) (n : ℕ) (pins : List OpenPin) → shape_total (shape_of c params r) (raw_pins n pins) ≤ pins_size (has_long_address r) pins
row_weight c params (row.Comb r) n pins = (let none = comb_total (is_carried_row r) (record { kind = c.kind; attrs = attrs_of c.attrs; params = params }) r (raw_pins n pins) in omega (arith, none))
row_weight c params (row.Reg r) n pins = omega arith
row_weight c params (row.Memory r) n pins = omega arith
row_weight c params (row.Ram u) n pins = (let same = raw_total n pins in omega (arith, same))
row_weight c params row.StrangeRam n pins = omega arith
row_weight c params row.Kept n pins = omega arith

total_after : (xs ys : List RawCell) → cells_total (xs ++ ys) ≡ cells_total xs + cells_total ys
total_after [] ys = omega arith
total_after (x ∷ xs) ys = let rest = total_after xs ys in omega (arith, rest)

pins_few : (x : Context) (st : Counts) (r : CellRow) (pins : List OpenPin) → count_breaches x.memory st r pins ≡ [] → st.pin_bits + pins_size (has_long_address r) pins ≤ most
pins_few x st r pins e =
    let few = limit_breaches most (st.pin_bits + pins_size (has_long_address r) pins) in
    let rest = row_limits x.memory st.reads st.writes r in
    limit_kept most (st.pin_bits + pins_size (has_long_address r) pins) (none_left few rest (none_right (limit_breaches 4194304 (st.places + open_count pins)) (few ++ rest) e))

-- one cell more
found_step : (x : Context) (st : Counts) (c : DocCell) (params : List Attr) (f : Found) → found_faults x st c params f ≡ [] → st.pin_bits ≤ most
    → (st.pin_bits + cells_total (gained (found_gain x st c params f)) ≤ (counted st (found_gain x st c params f)).pin_bits) × ((counted st (found_gain x st c params f)).pin_bits ≤ most)
unfolding row_gain row_faults
found_step x st c params found_as.Unknown e h = absurd cc
found_step x st c params found_as.Missing e h = absurd cc
found_step x st c params (found_as.Row r) e h =
    let pins = row_pins x c r in
    let few = pins_few x st r pins (none_right (pin_faults x c params r) (count_breaches x.memory st r pins) e) in
    let weight = row_weight c params r st.places pins in
    (omega (arith, weight), few)

at_none : (i : ℕ) (bs : List Breach) → at i bs ≡ [] → bs ≡ []
at_none i [] e = refl
at_none i (b ∷ bs) e = absurd cc

pub cells_few : (x : Context) (k : ℕ) (st : Counts) (is : List Item) → cell_faults x k st is ≡ [] → st.pin_bits ≤ most → st.pin_bits + cells_total (raw_cells x st is) ≤ most
cells_few x k st [] e h = omega (arith, h)
cells_few x k st (item.Wire w ∷ is) e h = cells_few x (k + 1) st is e h
cells_few x k st (item.Param p ∷ is) e h = cells_few x (k + 1) st is e h
cells_few x k st (item.Mem m ∷ is) e h = cells_few x (k + 1) st is e h
cells_few x k st (item.Connect l r ∷ is) e h = cells_few x (k + 1) st is e h
cells_few x k st (item.Cell c ∷ is) e h =
    let f = found_row x.library (kind_in x c.kind) (params_of c.lines) in
    let gain = found_gain x st c (params_of c.lines) f in
    let next = counted st gain in
    let step = found_step x st c (params_of c.lines) f (at_none k (found_faults x st c (params_of c.lines) f) (none_left (at k (found_faults x st c (params_of c.lines) f)) (cell_faults x (k + 1) next is) e)) h in
    let rest = cells_few x (k + 1) next is (none_right (at k (found_faults x st c (params_of c.lines) f)) (cell_faults x (k + 1) next is) e) step.1 in
    let all = total_after (gained gain) (raw_cells x next is) in
    let more = step.0 in
    omega (arith, rest, all, more)

-- ---- the slots of all RAM cells

abbrev slots_total : List RamCell → ℕ
slots_total [] = 0
slots_total (c ∷ cs) = length c.slots + slots_total cs

slots_after : (xs ys : List RamCell) → slots_total (xs ++ ys) ≡ slots_total xs + slots_total ys
slots_after [] ys = omega arith
slots_after (x ∷ xs) ys = let rest = slots_after xs ys in omega (arith, rest)

slots_are : (cs : List RamCell) → sum_by (λ (c : RamCell). length c.slots) cs ≡ slots_total cs
slots_are [] = refl
slots_are (c ∷ cs) = sum_by-cons (λ (x : RamCell). length x.slots) c cs ∙ ap (λ k. length c.slots + k) (slots_are cs)

module _ (lib : Library) (fits : LibraryFits lib) (places : List Bit) (roots : List ClockRoot) where
  under_few : (name : List ℕ) (u : RamUse) (o : Option Variant) (ps : List RawPin) → ((v : Variant) → o ≡ Some v → All (λ w. 0 < w) v.widths) → ((v : Variant) → o ≡ Some v → any_strange (length v.widths) u.row.slots ≡ false)
      → FitsTable (variant_pins o u.row.slots) ps → length (ram_under lib places roots name u o ps).slots ≤ pins_total ps
  under_few name u None ps some levels table = omega arith
  under_few name u (Some v) ps some levels table =
      let few = cell_total v (some v refl) places roots ps name u (levels v refl) in
      let same = table_total (groups_pins v v.groups u.row.slots) ps table in
      omega (arith, few, same)

  shape_few : (name : List ℕ) (s : CellShape) (ps : List RawPin) → FitsShape lib s ps → ShapeRises lib s → slots_total (ram_by lib places roots name s ps) ≤ shape_total s ps
  shape_few name (shape.Comb r) ps table rises = omega arith
  shape_few name (shape.Reg r) ps table rises = omega arith
  shape_few name (shape.Carried k) ps table rises = omega arith
  shape_few name (shape.Memory k r) ps table rises = omega arith
  shape_few name (shape.Ram u) ps table rises =
      let few = under_few name u (variant_of lib u) ps (λ v e. of_variant (λ y. All (λ w. 0 < w) y.widths) lib u v fits.widths e) (λ v e. (rises v e).levels) (ram_fits lib u ps fits.apart table) in
      omega (arith, few)

  all_few : (cs : List RawCell) → CellsFit lib cs → CellsRise lib cs → slots_total (rams_of lib places roots cs) ≤ cells_total cs
  all_few [] table rises = omega arith
  all_few (c ∷ cs) table rises =
      let here = shape_few c.name c.shape c.pins table.0 rises.0 in
      let rest = all_few cs table.1 rises.1 in
      let all = slots_after (ram_by lib places roots c.name c.shape c.pins) (rams_of lib places roots cs) in
      omega (arith, here, rest, all)

  pub slots_few : (cs : List RawCell) → CellsFit lib cs → CellsRise lib cs → cells_total cs ≤ most → sum_by (λ (c : RamCell). length c.slots) (rams_of lib places roots cs) ≤ 1073741824
  slots_few cs table rises few =
      let all = all_few cs table rises in
      let same = slots_are (rams_of lib places roots cs) in
      omega (arith, all, same, few)
