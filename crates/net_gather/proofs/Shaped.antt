-- Cells of RAMs have the shape of their variants.
use Rattle.std.proofs.Common.{◌≡◌, ℕ, ◌+◌, ◌≤◌, Bool, true, false, cond, List, [], ◌∷◌, ◌++◌, Option, Some, None, refl, sym, ap, subst, arith}
use Rattle.lib_core.specs.declared.library.Library.{Library}
use Rattle.lib_core.specs.declared.library.Variant.{Variant}
use Rattle.rtlil_text.specs.declared.doc.DocCell.{DocCell}
use Rattle.rtlil_text.specs.declared.doc.Item.{Item}
use Rattle.rtlil_text.specs.declared.doc.Item.TheVariants as item
use Rattle.rtlil_text.specs.Grammar.{All}
use Rattle.net_core.specs.declared.bits.Bit.{Bit}
use Rattle.net_core.specs.declared.mems.Attr.{Attr}
use Rattle.cell_rows.specs.declared.comb.CombRow.{CombRow}
use Rattle.cell_rows.specs.declared.pin.PinRow.{PinRow}
use Rattle.cell_rows.specs.Rows.{is_carried_row}
use Rattle.doc_params.specs.Docs.{params_of}
use Rattle.net_wires.specs.declared.clock.ClockRoot.{ClockRoot}
use Rattle.net_wires.specs.Links.{PairsWithin, SourcesWithin}
use Rattle.net_wires.specs.Spans.{There, spans, wire_bits}
use Rattle.net_wires.proofs.Reach.{all_there}
use Rattle.ram_rows.specs.declared.pins.SlotPin.TheVariants as pin
use Rattle.ram_rows.specs.RamNames.{slot_name}
use Rattle.ram_rows.specs.RamPins.{suffix}
use Rattle.raw_cells.specs.declared.raw.CellShape.TheVariants as shape
use Rattle.raw_cells.specs.declared.raw.Kept.{Kept}
use Rattle.raw_cells.specs.declared.raw.RamUse.{RamUse}
use Rattle.raw_cells.specs.declared.raw.RawCell.{RawCell}
use Rattle.raw_cells.specs.declared.raw.RawPin.{RawPin}
use Rattle.raw_cells.specs.declared.row.CellRow.{CellRow}
use Rattle.raw_cells.specs.declared.row.CellRow.TheVariants as row
use Rattle.raw_cells.specs.declared.row.Found.{Found}
use Rattle.raw_cells.specs.declared.row.Found.TheVariants as found_as
use Rattle.raw_cells.specs.declared.tied.Tied.{Tied}
use Rattle.raw_cells.specs.RamCells.{ram_of}
use Rattle.raw_cells.specs.Rows.{found_row, ram_breaches, table_of, variant_of, variant_pins}
use Rattle.raw_cells.specs.Shaped.{fits_tied}
use Rattle.raw_cells.specs.Tied.{tied_of}
use Rattle.raw_cells.proofs.Alike.{fits_kept}
use Rattle.raw_cells.proofs.Slots.{cell_alike, PinsTied}
use Rattle.net_gather.specs.declared.counts.Counts.{Counts}
use Rattle.net_gather.specs.declared.faces.Faces.{Faces}
use Rattle.net_gather.specs.declared.file_pin.FilePin.{FilePin}
use Rattle.net_gather.specs.declared.gathering.Gathered.{Gathered}
use Rattle.net_gather.specs.declared.open_pin.OpenPin.{OpenPin}
use Rattle.net_gather.specs.Cells.{Context, found_faults, found_gain, kind_in, open_faults, pin_faults, row_faults, row_gain, row_pins, shape_of}
use Rattle.net_gather.specs.Faults.{at}
use Rattle.net_gather.specs.FilePins.{file_breaches, file_pins}
use Rattle.net_gather.specs.Gather.{cell_faults, connect_faults, context, counted, counts_before, counts_of, faults_of, gained, gathered, item_breaches, item_gain, pairs_of, raw_cells}
use Rattle.net_gather.specs.Laws.{Agrees, CellsShaped, NeverFrom, ShapeFits}
use Rattle.net_gather.specs.OpenPins.{known_pins, open_count, raw_pins, table_pins}
use Rattle.net_gather.specs.PortClocks.{clock_breaches}
use Rattle.net_gather.specs.Sizes.{size_faults}
use Rattle.net_gather.specs.Ties.{ties_of}
use Rattle.net_gather.proofs.Clocked.{Clocked, table_clocked}
use Rattle.net_gather.proofs.Few as few
use Rattle.net_gather.proofs.Fitting.{at_none, front_none, rest_none, test_holds}
use Rattle.net_gather.proofs.Shaping.{after, before, pins_tied}
use Rattle.net_gather.proofs.Tying.{ties_same}
use Rattle.net_gather.proofs.Within as within
use Rattle.net_gather.proofs.Within.{row_within}

-- pins of a table whose clocks are known by their names
named_clocked : (ps : List FilePin) (rs : List PinRow) → Clocked rs → All (λ (p : OpenPin). (slot : List ℕ) → p.name ≡ slot_name slot (suffix pin.Clk) → p.clock ≡ true) (table_pins ps rs)
named_clocked ps [] h = tt
named_clocked ps (r ∷ rs) h = (h.0, named_clocked ps rs h.1)

abbrev RawWithin : ℕ → List RawPin → Type 0
RawWithin n ps = All (λ (p : RawPin). SourcesWithin n p.bits) ps

abbrev DigitsNever : ℕ → List ClockRoot → List RawPin → Type 0
DigitsNever n roots ps = All (λ (p : RawPin). p.clock ≡ true → p.given ≡ true → NeverFrom n roots p.bits) ps

module _ (m : Gathered) (places : List Bit) (roots : List ClockRoot) (w : PairsWithin m.wire_places m.pairs) (g : Agrees m places roots) where
  variant_case : (lib : Library) (name : List ℕ) (u : RamUse) (o : Option Variant) (ps qs : List RawPin) → variant_of lib u ≡ o → PinsTied (before m) (after places roots) ps qs
      → fits_tied lib (tied_of m.wire_places m.pairs) name u o ps ≡ true → ShapeFits lib places roots name (shape.Ram u) qs
  variant_case lib name u None ps qs is k e = absurd (let f : false ≡ true = e in cc)
  variant_case lib name u (Some v) ps qs is k e = (v, is, fits_kept lib _ _ (cell_alike (before m) (after places roots) name u v ps qs k) e)

  ram_shaped : (x : Context) (from : ℕ) (c : DocCell) (u : RamUse) → x.tied ≡ tied_of m.wire_places m.pairs → There m.wire_places x.names → m.wire_places ≤ from
      → RawWithin m.places (raw_pins from (row_pins x c (row.Ram u))) → DigitsNever m.wire_places roots (raw_pins from (row_pins x c (row.Ram u)))
      → open_faults x c (row.Ram u) (file_pins x.names c.lines) ≡ [] → ShapeFits x.library places roots c.name (shape.Ram u) (raw_pins from (row_pins x c (row.Ram u)))
  unfolding row_pins
  ram_shaped x from c u t there le k d e =
      let pins : List OpenPin = row_pins x c (row.Ram u) in
      let clocked = named_clocked (file_pins x.names c.lines) (variant_pins (variant_of x.library u) u.row.slots) (table_clocked (variant_of x.library u) u.row.slots) in
      let fits : fits_tied x.library x.tied c.name u (variant_of x.library u) (known_pins x.tied pins) ≡ true = test_holds (fits_tied x.library x.tied c.name u (variant_of x.library u) (known_pins x.tied pins)) _ e in
      variant_case x.library c.name u (variant_of x.library u) (known_pins (tied_of m.wire_places m.pairs) pins) (raw_pins from pins) refl
      (pins_tied m places roots w g from pins (row_within m.wire_places x c (row.Ram u) there) clocked le k d)
      (subst (λ (s : Tied). fits_tied x.library s c.name u (variant_of x.library u) (known_pins s pins) ≡ true) t fits)

  comb_shaped : (lib : Library) (name : List ℕ) (kept : Bool) (k : Kept) (q : CombRow) (ps : List RawPin) → ShapeFits lib places roots name (cond kept (shape.Carried k) (shape.Comb q)) ps
  comb_shaped lib name true k q ps = tt
  comb_shaped lib name false k q ps = tt

  row_shaped : (x : Context) (from : ℕ) (c : DocCell) (params : List Attr) (r : CellRow) → x.tied ≡ tied_of m.wire_places m.pairs → There m.wire_places x.names → m.wire_places ≤ from
      → RawWithin m.places (raw_pins from (row_pins x c r)) → DigitsNever m.wire_places roots (raw_pins from (row_pins x c r))
      → open_faults x c r (file_pins x.names c.lines) ≡ [] → ShapeFits x.library places roots c.name (shape_of c params r) (raw_pins from (row_pins x c r))
  row_shaped x from c params (row.Comb q) t there le k d e = comb_shaped x.library c.name (is_carried_row q) _ q _
  row_shaped x from c params (row.Reg q) t there le k d e = tt
  row_shaped x from c params (row.Memory q) t there le k d e = tt
  row_shaped x from c params (row.Ram u) t there le k d e = ram_shaped x from c u t there le k d e
  row_shaped x from c params row.StrangeRam t there le k d e = tt
  row_shaped x from c params row.Kept t there le k d e = tt

  abbrev AllWithin : List RawCell → Type 0
  AllWithin cs = All (λ (c : RawCell). RawWithin m.places c.pins) cs

  abbrev AllNever : List RawCell → Type 0
  AllNever cs = All (λ (c : RawCell). DigitsNever m.wire_places roots c.pins) cs

  found_shaped : (x : Context) (st : Counts) (c : DocCell) (params : List Attr) (f : Found) → x.tied ≡ tied_of m.wire_places m.pairs → There m.wire_places x.names → m.wire_places ≤ st.places
      → AllWithin (gained (found_gain x st c params f)) → AllNever (gained (found_gain x st c params f)) → found_faults x st c params f ≡ [] → CellsShaped x.library places roots (gained (found_gain x st c params f))
  unfolding row_gain row_faults pin_faults
  found_shaped x st c params found_as.Unknown t there le k d e = tt
  found_shaped x st c params found_as.Missing t there le k d e = tt
  found_shaped x st c params (found_as.Row r) t there le k d e =
      let pins : pin_faults x c params r ≡ [] = front_none _ _ e in
      let behind : clock_breaches r params ++ (ram_breaches x.library r c.lines ++ open_faults x c r (file_pins x.names c.lines)) ≡ [] = rest_none (file_breaches x.names (table_of x.library r) c.lines) _ pins in
      let shaped : open_faults x c r (file_pins x.names c.lines) ≡ [] = rest_none (ram_breaches x.library r c.lines) _ (rest_none (clock_breaches r params) _ behind) in
      (row_shaped x st.places c params r t there le k.0 d.0 shaped, tt)

  item_shaped : (x : Context) (st : Counts) (i : Item) → x.tied ≡ tied_of m.wire_places m.pairs → There m.wire_places x.names → m.wire_places ≤ st.places
      → AllWithin (gained (item_gain x st i)) → AllNever (gained (item_gain x st i)) → item_breaches x st i ≡ [] → CellsShaped x.library places roots (gained (item_gain x st i))
  item_shaped x st (item.Wire o) t there le k d e = tt
  item_shaped x st (item.Param p) t there le k d e = tt
  item_shaped x st (item.Mem o) t there le k d e = tt
  item_shaped x st (item.Cell c) t there le k d e = found_shaped x st c (params_of c.lines) (found_row x.library (kind_in x c.kind) (params_of c.lines)) t there le k d e
  item_shaped x st (item.Connect l r) t there le k d e = tt

  found_more : (x : Context) (st : Counts) (c : DocCell) (params : List Attr) (f : Found) → m.wire_places ≤ st.places → m.wire_places ≤ (counted st (found_gain x st c params f)).places
  unfolding row_gain
  found_more x st c params found_as.Unknown le = le
  found_more x st c params found_as.Missing le = le
  found_more x st c params (found_as.Row r) le = let more : m.wire_places ≤ st.places + open_count (row_pins x c r) = omega (arith, le) in more

  item_more : (x : Context) (st : Counts) (i : Item) → m.wire_places ≤ st.places → m.wire_places ≤ (counted st (item_gain x st i)).places
  item_more x st (item.Wire o) le = le
  item_more x st (item.Param p) le = le
  item_more x st (item.Mem o) le = le
  item_more x st (item.Cell c) le = found_more x st c (params_of c.lines) (found_row x.library (kind_in x c.kind) (params_of c.lines)) le
  item_more x st (item.Connect l r) le = le

  in_front : (P : RawCell → Type 0) (xs ys : List RawCell) → All P (xs ++ ys) → All P xs
  in_front P [] ys h = tt
  in_front P (x ∷ xs) ys h = (h.0, in_front P xs ys h.1)

  in_rest : (P : RawCell → Type 0) (xs ys : List RawCell) → All P (xs ++ ys) → All P ys
  in_rest P [] ys h = h
  in_rest P (x ∷ xs) ys h = in_rest P xs ys h.1

  joined : (P : RawCell → Type 0) (xs ys : List RawCell) → All P xs → All P ys → All P (xs ++ ys)
  joined P [] ys h k = k
  joined P (x ∷ xs) ys h k = (h.0, joined P xs ys h.1 k)

  cells_shaped : (x : Context) (k : ℕ) (st : Counts) (is : List Item) → x.tied ≡ tied_of m.wire_places m.pairs → There m.wire_places x.names → m.wire_places ≤ st.places
      → AllWithin (raw_cells x st is) → AllNever (raw_cells x st is) → cell_faults x k st is ≡ [] → CellsShaped x.library places roots (raw_cells x st is)
  cells_shaped x k st [] t there le h d e = tt
  cells_shaped x k st (i ∷ is) t there le h d e =
      let next = counted st (item_gain x st i) in
      let here = gained (item_gain x st i) in
      let rest = raw_cells x next is in
      joined (λ (c : RawCell). ShapeFits x.library places roots c.name c.shape c.pins) here rest
      (item_shaped x st i t there le (in_front (λ (c : RawCell). RawWithin m.places c.pins) here rest h) (in_front (λ (c : RawCell). DigitsNever m.wire_places roots c.pins) here rest d)
      (at_none k (item_breaches x st i) (front_none (at k (item_breaches x st i)) (cell_faults x (k + 1) next is) e)))
      (cells_shaped x (k + 1) next is t there (item_more x st i le) (in_rest (λ (c : RawCell). RawWithin m.places c.pins) here rest h) (in_rest (λ (c : RawCell). DigitsNever m.wire_places roots c.pins) here rest d)
      (rest_none (at k (item_breaches x st i)) (cell_faults x (k + 1) next is) e))

pub rams_fit : (lib : Library) (ram : List ℕ → Option ℕ) (f : Faces) (is : List Item) (places : List Bit) (roots : List ClockRoot) → faults_of (context lib ram f is) is ≡ []
    → Agrees (gathered (context lib ram f is) is) places roots → CellsShaped lib places roots (gathered (context lib ram f is) is).cells
rams_fit lib ram f is places roots e g =
    let x : Context = context lib ram f is in
    let there : There (wire_bits is) (spans 0 is) = all_there is in
    let behind : cell_faults x 0 (counts_before is) is ++ connect_faults x.names 0 is ≡ [] = rest_none (size_faults 0 0 is) _ e in
    let told : x.tied ≡ tied_of (wire_bits is) (pairs_of (spans 0 is) is) =
    ap (tied_of (wire_bits is)) (ties_same (spans 0 is) 0 is (rest_none (cell_faults x 0 (counts_before is) is) (connect_faults x.names 0 is) behind)) in
    cells_shaped (gathered x is) places roots (few.pairs_within (wire_bits is) (spans 0 is) is there) g x 0 (counts_before is) is told there (omega arith)
    (within.places_within x (counts_before is) is there) g.digits (front_none (cell_faults x 0 (counts_before is) is) (connect_faults x.names 0 is) behind)
