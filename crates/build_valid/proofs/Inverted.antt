-- A clock that is flipped comes through an inverter, which stands in the module.
use Rattle.std.proofs.Common.{◌≡◌, ◌⊎◌, inl, inr, ℕ, zero, suc, ◌<◌, Bool, true, false, List, [], ◌∷◌, ◌++◌, map, length, get_or, Option, Some, None, slice_get, codes, refl, sym, ap, ◌∙◌, subst, arith}
use Rattle.std.specs.Prelude.{if◌then◌else◌}
use Rattle.std.specs.List.{flat_map}
use Rattle.std.proofs.lemmas.Option.{get_or_from_slice_get, same_Some, slice_get-get_or}
use Rattle.lib_core.specs.declared.library.EdgeKind.{EdgeKind}
use Rattle.lib_core.specs.declared.library.EdgeKind.TheVariants as edge
use Rattle.lib_core.specs.declared.library.Library.{Library}
use Rattle.lib_core.specs.declared.library.Tri.{Tri}
use Rattle.rtlil_text.specs.declared.doc.DocModule.{DocModule}
use Rattle.net_core.specs.declared.bits.Bit.{Bit}
use Rattle.net_core.specs.declared.bits.Bit.TheVariants as bits
use Rattle.net_core.specs.declared.cells.Comb.{Comb}
use Rattle.net_core.specs.declared.cells.CombKind.{CombKind}
use Rattle.net_core.specs.declared.cells.CombKind.TheVariants as comb
use Rattle.net_core.specs.declared.modules.Module.{Module}
use Rattle.net_core.specs.declared.rams.RamCell.{RamCell}
use Rattle.net_core.specs.Logic.{xor}
use Rattle.net_core.specs.Valid.{EdgeFits, HasInverter}
use Rattle.cell_rows.specs.declared.comb.CombRow.{CombRow}
use Rattle.cell_rows.specs.declared.operands.Operands.{Operands}
use Rattle.cell_rows.specs.declared.operands.Operands.TheVariants.{One, Alike, Free, Shift, Mux, Pmux}
use Rattle.cell_rows.specs.Operands.{operands}
use Rattle.cell_rows.specs.Pins.{comb_pins, pins_by}
use Rattle.net_wires.specs.declared.clock.ClockRoot.{ClockRoot}
use Rattle.net_wires.specs.declared.clock.ClockRoot.TheVariants as leads
use Rattle.net_wires.specs.declared.clock.Inverter.{Inverter}
use Rattle.net_wires.specs.declared.link.Link.{Link}
use Rattle.net_wires.specs.declared.source.Source.{Source}
use Rattle.net_wires.specs.declared.source.Source.TheVariants as source
use Rattle.net_wires.specs.Clocks.{AreClocks, drives, LeadsToRoot}
use Rattle.net_wires.specs.Doubling.{Within}
use Rattle.net_wires.specs.Nets.{bit_of, Solves}
use Rattle.raw_cells.specs.declared.raw.CellShape.{CellShape}
use Rattle.raw_cells.specs.declared.raw.CellShape.TheVariants as shape
use Rattle.raw_cells.specs.declared.raw.RawCell.{RawCell}
use Rattle.raw_cells.specs.declared.raw.RawPin.{RawPin}
use Rattle.raw_cells.specs.Bits.{sources_at}
use Rattle.raw_cells.specs.Clocks.{clock_by, first_root, place_bit, root_clock}
use Rattle.net_gather.specs.FilePins.{in_table}
use Rattle.net_gather.specs.Laws.{CellsFit, FitsShape, FitsTable}
use Rattle.net_cells.specs.Cells.{comb_of}
use Rattle.net_checks.specs.ClockPins.{bit_above, cell_inverters, inverter, inverters_between, is_not, last_bit, not_inverters, shape_inverters}
use Rattle.net_module.specs.Assembly.{comb_by, combs_of, module_of}
use Rattle.net_fits.specs.Cells.{CellsDriveNets, DrivesNets}
use Rattle.net_fits.proofs.Tables.{drives_of, nets_width, pin_width}
use Rattle.build_valid.proofs.Drives.{ConnectsLead, here, inverter_among, last_inverter, more}
use Rattle.build_valid.proofs.InoutBits.{in_either}
use Rattle.build_valid.proofs.InoutFree.{root_at}
use Rattle.build_valid.proofs.Rising.{RisesAs}

-- ---- inverters among logic cells

record InverterIn (combs : List Comb) (net : ℕ) : Type 0 where
  number : ℕ
  cell : Comb
  place : ℕ
  stands : slice_get combs number ≡ Some cell
  inverts : cell.kind ≡ comb.Not
  read : slice_get cell.a place ≡ Some (bits.Net net)
  within : place < length cell.y

at_front : {X : Type 0} (xs ys : List X) (k : ℕ) (x : X) → slice_get xs k ≡ Some x → slice_get (xs ++ ys) k ≡ Some x
at_front [] ys k x e = absurd cc
at_front (y ∷ xs) ys zero x e = e
at_front (y ∷ xs) ys (suc k) x e = at_front xs ys k x e

inverter_left : (xs ys : List Comb) (net : ℕ) → InverterIn xs net → InverterIn (xs ++ ys) net
inverter_left xs ys net i = record { number = i.number; cell = i.cell; place = i.place; stands = at_front xs ys i.number i.cell i.stands; inverts = i.inverts; read = i.read; within = i.within }

inverter_right : (xs ys : List Comb) (net : ℕ) → InverterIn ys net → InverterIn (xs ++ ys) net
inverter_right [] ys net i = i
inverter_right (x ∷ xs) ys net i = let r = inverter_right xs ys net i in record { number = suc r.number; cell = r.cell; place = r.place; stands = r.stands; inverts = r.inverts; read = r.read; within = r.within }

-- ---- what an inverter reads

abbrev Reads : List Inverter → Source → Type 0
Reads is s = (k : ℕ) × (i : Inverter) × (slice_get is k ≡ Some i) × (i.from ≡ s)

split : (xs ys : List Inverter) (s : Source) → Reads (xs ++ ys) s → Reads xs s ⊎ Reads ys s
split xs ys s r = elim (in_either xs ys r.0 r.1 r.2) [ inl at ↦ inl (r.0, r.1, at, r.3) | inr there ↦ inr (there.0, r.1, there.1, r.3) ]

no_source : (k : ℕ) (s : Source) → slice_get [] k ≡ Some s → ⊥
no_source k s e = cc

none_reads : (k : ℕ) (i : Inverter) → slice_get [] k ≡ Some i → ⊥
none_reads k i e = cc

single : (from : Source) (p : ℕ) (s : Source) (k : ℕ) (i : Inverter) → slice_get (record { from = from; to = p } ∷ []) k ≡ Some i → i.from ≡ s → from ≡ s
single from p s zero i at e = ap (λ (v : Inverter). v.from) (same_Some (record { from = from; to = p }) i at) ∙ e
single from p s (suc k) i at e = absurd (none_reads k i at)

one_reads : (from to s : Source) → Reads (inverter from to) s → from ≡ s
one_reads from source.Zero s r = absurd (none_reads r.0 r.1 r.2)
one_reads from source.One s r = absurd (none_reads r.0 r.1 r.2)
one_reads from source.Loose s r = absurd (none_reads r.0 r.1 r.2)
one_reads from (source.At p) s r = single from p s r.0 r.1 r.2 r.3

-- a bit of an operand, which has a bit of the result
abbrev ReadAt : List Source → ℕ → Source → Type 0
ReadAt xs n s = (j : ℕ) × (slice_get xs j ≡ Some s) × (j < n)

between_reads : (above : Source) (xs ys : List Source) (s : Source) → Reads (inverters_between above xs ys) s → ReadAt xs (length ys) s ⊎ ((above ≡ s) × (length xs < length ys))
between_reads above xs [] s r = absurd (none_reads r.0 r.1 r.2)
between_reads above [] (y ∷ ys) s r =
    elim (split (inverter above y) (inverters_between above [] ys) s r) [
      | inl one ↦ inr (one_reads above y s one, omega arith)
      | inr rest ↦ elim (between_reads above [] ys s rest) [ inl at ↦ absurd (no_source at.0 s at.1) | inr top ↦ inr (top.0, omega arith) ]
    ]
between_reads above (x ∷ xs) (y ∷ ys) s r =
    elim (split (inverter x y) (inverters_between above xs ys) s r) [
      | inl one ↦ inl (zero, ap (λ z. Some z) (one_reads x y s one), omega arith)
      | inr rest ↦ elim (between_reads above xs ys s rest) [
        | inl at ↦ inl (suc at.0, at.1, (let h = at.2 in omega (arith, h)))
        | inr top ↦ inr (top.0, (let h = top.1 in omega (arith, h)))
      ]
    ]

last_reads : (other : Source) (ss : List Source) (s : Source) → last_bit other ss ≡ s → (other ≡ s) ⊎ ReadAt ss (length ss) s
last_reads other [] s e = inl e
last_reads other (x ∷ xs) s e =
    elim (last_reads x xs s e) [
      | inl same ↦ inr (zero, ap (λ z. Some z) same, omega arith)
      | inr at ↦ inr (suc at.0, at.1, (let h = at.2 in omega (arith, h)))
    ]

zero_no_place : (q : ℕ) → source.Zero ≡ source.At q → ⊥
zero_no_place q e = cc

above_reads : (signed : Bool) (ss : List Source) (q : ℕ) → bit_above signed ss ≡ source.At q → ReadAt ss (length ss) (source.At q)
above_reads true ss q e = elim (last_reads source.Zero ss (source.At q) e) [ inl differs ↦ absurd (zero_no_place q differs) | inr at ↦ at ]
above_reads false ss q e = absurd cc

shorter : (xs ys : List Source) (s : Source) → ReadAt xs (length xs) s → length xs < length ys → ReadAt xs (length ys) s
shorter xs ys s at h = let k = at.2 in (at.0, at.1, omega (arith, k, h))

not_reads : (signed : Bool) (ps : List RawPin) (q : ℕ) → Reads (not_inverters signed ps) (source.At q) → ReadAt (sources_at ps (codes "\\A")) (length (sources_at ps (codes "\\Y"))) (source.At q)
unfolding not_inverters
not_reads signed ps q r =
    let xs = sources_at ps (codes "\\A") in
    let ys = sources_at ps (codes "\\Y") in
    elim (between_reads (bit_above signed xs) xs ys (source.At q) r) [ inl at ↦ at | inr top ↦ shorter xs ys (source.At q) (above_reads signed xs q top.0) top.1 ]

-- ---- the cell of an inverter

not_kind : (k : CombKind) → is_not k ≡ true → k ≡ comb.Not
not_kind comb.Not e = refl
not_kind k e = absurd cc

by_drives : (o : Operands) (q : CombRow) → drives_of (in_table (pins_by o q) (codes "\\Y")) ≡ true
by_drives One q = refl
by_drives Alike q = refl
by_drives Free q = refl
by_drives Shift q = refl
by_drives Mux q = refl
by_drives Pmux q = refl

result_driven : (q : CombRow) → drives_of (in_table (comb_pins q) (codes "\\Y")) ≡ true
unfolding comb_pins
result_driven q = by_drives (operands q.kind) q

mapped_at : {X Y : Type 0} (f : X → Y) (xs : List X) (k : ℕ) (x : X) → slice_get xs k ≡ Some x → slice_get (map f xs) k ≡ Some (f x)
mapped_at f [] k x e = absurd cc
mapped_at f (y ∷ ys) zero x e = ap (λ z. Some (f z)) (same_Some y x e)
mapped_at f (y ∷ ys) (suc k) x e = mapped_at f ys k x e

module _ (places : List Bit) (q net : ℕ) (has : place_bit places q ≡ bits.Net net) where
  cell_is : (name : List ℕ) (r : CombRow) (ps : List RawPin) → r.kind ≡ comb.Not → FitsTable (comb_pins r) ps → DrivesNets places ps
      → ReadAt (sources_at ps (codes "\\A")) (length (sources_at ps (codes "\\Y"))) (source.At q) → InverterIn (comb_of places name r ps ∷ []) net
  unfolding comb_of
  cell_is name r ps is fits drives at =
      let wide = nets_width places (comb_pins r) ps (codes "\\Y") fits drives (result_driven r) in
      let own = pin_width (comb_pins r) ps (codes "\\Y") fits in
      let h = at.2 in
      record {
        number = zero;
        cell = comb_of places name r ps;
        place = at.0;
        stands = refl;
        inverts = is;
        read = mapped_at (bit_of places) (sources_at ps (codes "\\A")) at.0 (source.At q) at.1 ∙ ap (λ b. Some b) has;
        within = omega (arith, h, wide, own);
      }

  comb_case : (b : Bool) (name : List ℕ) (r : CombRow) (ps : List RawPin) → is_not r.kind ≡ b → FitsTable (comb_pins r) ps → DrivesNets places ps → Reads (if b then not_inverters r.a_signed ps else []) (source.At q) → InverterIn (comb_of places name r ps ∷ []) net
  comb_case true name r ps e fits drives reads = cell_is name r ps (not_kind r.kind e) fits drives (not_reads r.a_signed ps q reads)
  comb_case false name r ps e fits drives reads = absurd (none_reads reads.0 reads.1 reads.2)

  shape_case : (lib : Library) (name : List ℕ) (s : CellShape) (ps : List RawPin) → FitsShape lib s ps → DrivesNets places ps → Reads (shape_inverters s ps) (source.At q) → InverterIn (comb_by places name s ps) net
  shape_case lib name (shape.Comb r) ps fits drives reads = comb_case (is_not r.kind) name r ps refl fits drives reads
  shape_case lib name (shape.Reg r) ps fits drives reads = absurd (none_reads reads.0 reads.1 reads.2)
  shape_case lib name (shape.Carried k) ps fits drives reads = absurd (none_reads reads.0 reads.1 reads.2)
  shape_case lib name (shape.Memory k r) ps fits drives reads = absurd (none_reads reads.0 reads.1 reads.2)
  shape_case lib name (shape.Ram u) ps fits drives reads = absurd (none_reads reads.0 reads.1 reads.2)

  cells_case : (lib : Library) (cs : List RawCell) → CellsFit lib cs → CellsDriveNets places cs → Reads (flat_map cell_inverters cs) (source.At q) → InverterIn (combs_of places cs) net
  cells_case lib [] fits drives reads = absurd (none_reads reads.0 reads.1 reads.2)
  cells_case lib (c ∷ cs) fits drives reads =
      elim (split (cell_inverters c) (flat_map cell_inverters cs) (source.At q) reads) [
        | inl one ↦ inverter_left (comb_by places c.name c.shape c.pins) (combs_of places cs) net (shape_case lib c.name c.shape c.pins fits.0 drives.0 one)
        | inr rest ↦ inverter_right (comb_by places c.name c.shape c.pins) (combs_of places cs) net (cells_case lib cs fits.1 drives.1 rest)
      ]

-- ---- clocks that are flipped

-- connects tie places of one bit
one_bit : (t : List Link) (new : List Bit) → Solves t new → Within t → length new ≡ length t → (p r : ℕ) → ConnectsLead t p r → place_bit new p ≡ place_bit new r
one_bit t new solves inside long _ _ (here p) = refl
one_bit t new solves inside long _ r (more p q _ at rest) =
    let h = inside p q at in
    let there = slice_get-get_or new q bits.Zero (omega (arith, h, long)) in
    get_or_from_slice_get new p (get_or new q bits.Zero) bits.Zero (solves.equal p q at h ∙ there) ∙ one_bit t new solves inside long q r rest

module _ (lib : Library) (d : DocModule) (cs : List RawCell) (places : List Bit) (count : ℕ) (roots : List ClockRoot) (starts : List Tri) (rams : List RamCell) (t : List Link) (n : ℕ) (from digits : List ℕ)
    (solves : Solves t places) (inside : Within t) (long : length places ≡ length t) (clocks : AreClocks t (drives n from (flat_map cell_inverters cs) digits) roots) (fits : CellsFit lib cs) (nets : CellsDriveNets places cs) where
  abbrev built : Module
  built = module_of d cs places count roots starts rams

  in_module : (net : ℕ) → InverterIn (combs_of places cs) net → HasInverter built net
  unfolding module_of
  in_module net i = record { number = i.number; cell = i.cell; place = i.place; stands = i.stands; inverts = i.inverts; read = i.read; within = i.within }

  no_way : true ≡ false → ⊥
  no_way e = cc

  flipped_way : (q p net : ℕ) → LeadsToRoot t (drives n from (flat_map cell_inverters cs) digits) q p true → place_bit places p ≡ bits.Net net → HasInverter built net
  flipped_way q p net way has =
      elim (last_inverter t (drives n from (flat_map cell_inverters cs) digits) q p true way) [
        | inl found ↦
            let inverts = inverter_among n from (flat_map cell_inverters cs) digits found.to (source.At found.from) found.inverts in
            let same : place_bit places found.from ≡ bits.Net net = one_bit t places solves inside long found.from p found.leads ∙ has in
            in_module net (cells_case places found.from net same lib cs fits nets (inverts.0, inverts.1, inverts.2, inverts.3))
        | inr straight ↦ absurd (no_way straight.0)
      ]

  first_leads : (ss : List Source) (p : ℕ) → first_root roots ss ≡ leads.Root p true → (q : ℕ) × (get_or roots q leads.Unknown ≡ leads.Root p true)
  first_leads [] p e = absurd cc
  first_leads (source.Zero ∷ ss) p e = absurd cc
  first_leads (source.One ∷ ss) p e = absurd cc
  first_leads (source.Loose ∷ ss) p e = absurd cc
  first_leads (source.At q ∷ ss) p e = (q, e)

  flipped_clock : (ss : List Source) (p net : ℕ) → first_root roots ss ≡ leads.Root p true → place_bit places p ≡ bits.Net net → HasInverter built net
  flipped_clock ss p net e has = let at = first_leads ss p e in flipped_way at.0 p net (clocks.each at.0 (leads.Root p true) (root_at roots at.0 p true at.1)) has

  abbrev Flips : ClockRoot → Type 0
  Flips c = (p net : ℕ) → c ≡ leads.Root p true → place_bit places p ≡ bits.Net net → HasInverter built net

  pos_bit : (flipped : Bool) (b : Bit) → (flipped ≡ true → (net : ℕ) → b ≡ bits.Net net → HasInverter built net) → EdgeFits built (Some edge.Pos) (root_clock b (xor true flipped))
  pos_bit true bits.Zero f = tt
  pos_bit true bits.One f = tt
  pos_bit true (bits.Net k) f = f refl k refl
  pos_bit false bits.Zero f = tt
  pos_bit false bits.One f = tt
  pos_bit false (bits.Net k) f = tt

  neg_bit : (flipped : Bool) (b : Bit) → (flipped ≡ true → (net : ℕ) → b ≡ bits.Net net → HasInverter built net) → EdgeFits built (Some edge.Neg) (root_clock b (xor false flipped))
  neg_bit true bits.Zero f = tt
  neg_bit true bits.One f = tt
  neg_bit true (bits.Net k) f = f refl k refl
  neg_bit false bits.Zero f = tt
  neg_bit false bits.One f = tt
  neg_bit false (bits.Net k) f = tt

  pos_clock : (c : ClockRoot) → Flips c → EdgeFits built (Some edge.Pos) (clock_by places true c)
  pos_clock leads.Never f = tt
  pos_clock leads.Unknown f = tt
  pos_clock (leads.Root p flipped) f = pos_bit flipped (place_bit places p) (λ e net has. f p net (ap (leads.Root p) e) has)

  neg_clock : (c : ClockRoot) → Flips c → EdgeFits built (Some edge.Neg) (clock_by places false c)
  neg_clock leads.Never f = tt
  neg_clock leads.Unknown f = tt
  neg_clock (leads.Root p flipped) f = neg_bit flipped (place_bit places p) (λ e net has. f p net (ap (leads.Root p) e) has)

  edge_case : (e : Option EdgeKind) (rising : Bool) (c : ClockRoot) → RisesAs e rising → Flips c → EdgeFits built e (clock_by places rising c)
  edge_case None rising c rises f = tt
  edge_case (Some edge.Pos) rising c rises f = subst (λ b. EdgeFits built (Some edge.Pos) (clock_by places b c)) (sym rises) (pos_clock c f)
  edge_case (Some edge.Neg) rising c rises f = subst (λ b. EdgeFits built (Some edge.Neg) (clock_by places b c)) (sym rises) (neg_clock c f)
  edge_case (Some edge.Either) rising c rises f = tt

  pub clock_fits : (e : Option EdgeKind) (rising : Bool) (ss : List Source) → RisesAs e rising → EdgeFits built e (clock_by places rising (first_root roots ss))
  clock_fits e rising ss rises = edge_case e rising (first_root roots ss) rises (λ p net is has. flipped_clock ss p net is has)
