-- Where no inout stands in a connect or in a pin of a cell that is taken apart, nothing touches the places of inouts.
use Rattle.std.proofs.Common.{◌≡◌, ℕ, ◌+◌, Bool, true, false, cond, ◌||◌, List, [], ◌∷◌, ◌++◌, drop, Option, Some, slice_get, codes, refl, subst}
use Rattle.std.specs.Prelude.{if◌then◌else◌}
use Rattle.std.specs.List.{flat_map, list_any}
use Rattle.std.specs.Str.{bytes_eq}
use Rattle.rtlil_text.specs.declared.doc.DocCell.{DocCell}
use Rattle.rtlil_text.specs.declared.doc.Item.{Item}
use Rattle.rtlil_text.specs.declared.doc.Item.TheVariants as item
use Rattle.rtlil_text.specs.Grammar.{All}
use Rattle.net_core.specs.declared.mems.Attr.{Attr}
use Rattle.net_wires.specs.declared.clock.Drive.TheVariants as drive
use Rattle.net_wires.specs.declared.clock.Inverter.{Inverter}
use Rattle.net_wires.specs.declared.source.Pair.{Pair}
use Rattle.net_wires.specs.declared.source.Source.{Source}
use Rattle.net_wires.specs.declared.source.Source.TheVariants as source
use Rattle.net_wires.specs.Clocks.{drives}
use Rattle.net_wires.specs.Connects.{connect_pairs}
use Rattle.net_wires.specs.Drivers.{is_place}
use Rattle.net_wires.specs.Spans.{Entry}
use Rattle.raw_cells.specs.declared.raw.CellShape.{CellShape}
use Rattle.raw_cells.specs.declared.raw.CellShape.TheVariants as shape
use Rattle.raw_cells.specs.declared.raw.RawCell.{RawCell}
use Rattle.raw_cells.specs.declared.raw.RawPin.{RawPin}
use Rattle.raw_cells.specs.declared.row.Found.{Found}
use Rattle.raw_cells.specs.declared.row.Found.TheVariants as found_as
use Rattle.raw_cells.specs.Rows.{found_row}
use Rattle.net_gather.specs.declared.counts.Counts.{Counts}
use Rattle.net_gather.specs.Cells.{Context, found_faults, found_gain, kind_in}
use Rattle.net_gather.specs.Faults.{at}
use Rattle.net_gather.specs.Gather.{cell_faults, counted, gained, pairs_of, raw_cells}
use Rattle.doc_params.specs.Docs.{params_of}
use Rattle.net_checks.specs.ClockPins.{bit_above, bits_at, bits_of_pin, cell_inverters, inverter, inverters_between, is_not, last_bit, not_inverters, pin_named, shape_inverters}
use Rattle.net_checks.specs.Inouts.{first_fault, inout_faults, is_among, is_kept, touches_pair, touches_pin}
use Rattle.net_fits.proofs.Lists.{all_join, each_of}
use Rattle.build_valid.proofs.Drives.{inverter_among}
use Rattle.build_valid.proofs.Faultless.{none_if, none_left, none_right}
use Rattle.build_valid.proofs.Untouched.{IsOff, PairsOff}

or_false : (a b : Bool) → (a || b) ≡ false → (a ≡ false) × (b ≡ false)
or_false true b e = absurd cc
or_false false b e = (refl, e)

module _ (inouts : List Source) where
  -- the place of an inout
  abbrev pub at_inout : ℕ → Bool
  at_inout p = list_any (is_place p) inouts

  abbrev pub Off : Source → Type 0
  Off s = IsOff at_inout s

  abbrev pub ShapeOff : CellShape → List RawPin → Type 0
  ShapeOff (shape.Comb r) ps = All (λ (p : RawPin). All Off p.bits) ps
  ShapeOff (shape.Reg r) ps = All (λ (p : RawPin). All Off p.bits) ps
  ShapeOff (shape.Carried k) ps = Unit {0}
  ShapeOff (shape.Memory k r) ps = All (λ (p : RawPin). All Off p.bits) ps
  ShapeOff (shape.Ram u) ps = All (λ (p : RawPin). All Off p.bits) ps

  abbrev pub CellsOff : List RawCell → Type 0
  CellsOff cs = All (λ (c : RawCell). ShapeOff c.shape c.pins) cs

  off_of : (s : Source) → is_among inouts s ≡ false → Off s
  off_of source.Zero e = tt
  off_of source.One e = tt
  off_of source.Loose e = tt
  off_of (source.At p) e = e

  bits_off : (ss : List Source) → list_any (is_among inouts) ss ≡ false → All Off ss
  bits_off [] e = tt
  bits_off (s ∷ ss) e = let parts = or_false (is_among inouts s) (list_any (is_among inouts) ss) e in (off_of s parts.0, bits_off ss parts.1)

  pins_off : (ps : List RawPin) → list_any (touches_pin (is_among inouts)) ps ≡ false → All (λ (p : RawPin). All Off p.bits) ps
  pins_off [] e = tt
  pins_off (p ∷ ps) e = let parts = or_false (touches_pin (is_among inouts) p) (list_any (touches_pin (is_among inouts)) ps) e in (bits_off p.bits parts.0, pins_off ps parts.1)

  shape_off : (s : CellShape) (ps : List RawPin) → (if is_kept s then false else list_any (touches_pin (is_among inouts)) ps) ≡ false → ShapeOff s ps
  shape_off (shape.Comb r) ps e = pins_off ps e
  shape_off (shape.Reg r) ps e = pins_off ps e
  shape_off (shape.Carried k) ps e = tt
  shape_off (shape.Memory k r) ps e = pins_off ps e
  shape_off (shape.Ram u) ps e = pins_off ps e

  pairs_off : (ps : List Pair) → list_any (touches_pair (is_among inouts)) ps ≡ false → PairsOff at_inout ps
  pairs_off [] e = tt
  pairs_off (p ∷ ps) e =
      let parts = or_false (touches_pair (is_among inouts) p) (list_any (touches_pair (is_among inouts)) ps) e in
      let sides = or_false (is_among inouts p.left) (is_among inouts p.right) parts.0 in
      ((off_of p.left sides.0, off_of p.right sides.1), pairs_off ps parts.1)

  -- ---- along the items

  abbrev AllOff : List Entry → Context → Counts → List Item → Type 0
  AllOff names x st is = CellsOff (raw_cells x st is) × PairsOff at_inout (pairs_of names is)

  cell_case : (names : List Entry) (x : Context) (k : ℕ) (st : Counts) (c : DocCell) (params : List Attr) (is : List Item) (f : Found)
      → at k (found_faults x st c params f) ++ cell_faults x (k + 1) (counted st (found_gain x st c params f)) is ≡ []
      → first_fault (is_among inouts) (gained (found_gain x st c params f) ++ raw_cells x (counted st (found_gain x st c params f)) is)
      ++ inout_faults (is_among inouts) names (drop 1 (gained (found_gain x st c params f) ++ raw_cells x (counted st (found_gain x st c params f)) is)) is ≡ []
      → ((next : Counts) → cell_faults x (k + 1) next is ≡ [] → inout_faults (is_among inouts) names (raw_cells x next is) is ≡ [] → AllOff names x next is)
      → CellsOff (gained (found_gain x st c params f) ++ raw_cells x (counted st (found_gain x st c params f)) is) × PairsOff at_inout (pairs_of names is)
  cell_case names x k st c params is found_as.Unknown e h rec = absurd cc
  cell_case names x k st c params is found_as.Missing e h rec = absurd cc
  cell_case names x k st c params is (found_as.Row r) e h rec =
      let f : Found = found_as.Row r in
      let next = counted st (found_gain x st c params f) in
      let rest = rec next (none_right (at k (found_faults x st c params f)) (cell_faults x (k + 1) next is) e) (none_right (first_fault (is_among inouts) (gained (found_gain x st c params f) ++ raw_cells x next is)) _ h) in
      ((shape_off _ _ (none_if _ _ (none_left (first_fault (is_among inouts) (gained (found_gain x st c params f) ++ raw_cells x next is)) _ h)), rest.0), rest.1)

  pub items_off : (names : List Entry) (x : Context) (k : ℕ) (st : Counts) (is : List Item) → cell_faults x k st is ≡ [] → inout_faults (is_among inouts) names (raw_cells x st is) is ≡ [] → AllOff names x st is
  items_off names x k st [] e h = (tt, tt)
  items_off names x k st (item.Wire w ∷ is) e h = items_off names x (k + 1) st is e h
  items_off names x k st (item.Param p ∷ is) e h = items_off names x (k + 1) st is e h
  items_off names x k st (item.Mem m ∷ is) e h = items_off names x (k + 1) st is e h
  items_off names x k st (item.Cell c ∷ is) e h =
      cell_case names x k st c (params_of c.lines) is (found_row x.library (kind_in x c.kind) (params_of c.lines)) e h (λ next f g. items_off names x (k + 1) next is f g)
  items_off names x k st (item.Connect l r ∷ is) e h =
      let pairs = connect_pairs names l r in
      let rest = items_off names x (k + 1) st is e (none_right (if list_any (touches_pair (is_among inouts)) pairs then _ ∷ [] else []) _ h) in
      (rest.0, all_join (λ (p : Pair). Off p.left × Off p.right) pairs (pairs_of names is) (pairs_off pairs (none_if _ _ (none_left _ (inout_faults (is_among inouts) names (raw_cells x st is) is) h))) rest.1)

  -- ---- inverters

  found_case : (b : Bool) (p : RawPin) (o : Option RawPin) → All Off p.bits → All Off (bits_of_pin o) → All Off (bits_of_pin (cond b (Some p) o))
  found_case true p o a h = a
  found_case false p o a h = h

  named_off : (ps : List RawPin) (name : List ℕ) → All (λ (p : RawPin). All Off p.bits) ps → All Off (bits_at ps name)
  named_off [] name a = tt
  named_off (p ∷ ps) name a = found_case (bytes_eq p.name name) p (pin_named ps name) a.0 (named_off ps name a.1)

  last_off : (other : Source) (ss : List Source) → Off other → All Off ss → Off (last_bit other ss)
  last_off other [] h a = h
  last_off other (s ∷ ss) h a = last_off s ss a.0 a.1

  above_off : (signed : Bool) (ss : List Source) → All Off ss → Off (bit_above signed ss)
  above_off true ss a = last_off source.Zero ss tt a
  above_off false ss a = tt

  abbrev InvertersOff : List Inverter → Type 0
  InvertersOff is = All (λ (i : Inverter). Off i.from) is

  one_off : (from to : Source) → Off from → InvertersOff (inverter from to)
  one_off from source.Zero h = tt
  one_off from source.One h = tt
  one_off from source.Loose h = tt
  one_off from (source.At p) h = (h, tt)

  join : (xs ys : List Inverter) → InvertersOff xs → InvertersOff ys → InvertersOff (xs ++ ys)
  join xs ys = all_join (λ (i : Inverter). Off i.from) xs ys

  between_off : (above : Source) (xs ys : List Source) → Off above → All Off xs → InvertersOff (inverters_between above xs ys)
  between_off above xs [] h a = tt
  between_off above [] (y ∷ ys) h a = join (inverter above y) (inverters_between above [] ys) (one_off above y h) (between_off above [] ys h a)
  between_off above (x ∷ xs) (y ∷ ys) h a = join (inverter x y) (inverters_between above xs ys) (one_off x y a.0) (between_off above xs ys h a.1)

  not_off : (signed : Bool) (ps : List RawPin) → All (λ (p : RawPin). All Off p.bits) ps → InvertersOff (not_inverters signed ps)
  unfolding not_inverters
  not_off signed ps a = between_off (bit_above signed (bits_at ps (codes "\\A"))) (bits_at ps (codes "\\A")) (bits_at ps (codes "\\Y")) (above_off signed (bits_at ps (codes "\\A")) (named_off ps (codes "\\A") a)) (named_off ps (codes "\\A") a)

  comb_case : (b signed : Bool) (ps : List RawPin) → All (λ (p : RawPin). All Off p.bits) ps → InvertersOff (if b then not_inverters signed ps else [])
  comb_case true signed ps a = not_off signed ps a
  comb_case false signed ps a = tt

  shape_case : (s : CellShape) (ps : List RawPin) → ShapeOff s ps → InvertersOff (shape_inverters s ps)
  shape_case (shape.Comb r) ps a = comb_case (is_not r.kind) r.a_signed ps a
  shape_case (shape.Reg r) ps a = tt
  shape_case (shape.Carried k) ps a = tt
  shape_case (shape.Memory k r) ps a = tt
  shape_case (shape.Ram u) ps a = tt

  inverters_off : (cs : List RawCell) → CellsOff cs → InvertersOff (flat_map cell_inverters cs)
  inverters_off [] a = tt
  inverters_off (c ∷ cs) a = join (cell_inverters c) (flat_map cell_inverters cs) (shape_case c.shape c.pins a.0) (inverters_off cs a.1)

  -- no inverter inverts the place of an inout
  pub none_inverts : (n : ℕ) (from digits : List ℕ) (cs : List RawCell) → CellsOff cs → (i q : ℕ) → slice_get (drives n from (flat_map cell_inverters cs) digits) i ≡ Some (drive.Inverts (source.At q)) → at_inout q ≡ false
  none_inverts n from digits cs a i q at_i =
      let found = inverter_among n from (flat_map cell_inverters cs) digits i (source.At q) at_i in
      let off : Off (found.1).from = each_of (λ (v : Inverter). Off v.from) (flat_map cell_inverters cs) (inverters_off cs a) found.0 found.1 found.2 in
      subst Off found.3 off
