-- The bits of inout wires and of inout pins stand at the places of inouts, and the bits of wires at places of their own.
use Rattle.std.proofs.Common.{◌≡◌, ◌⊎◌, inl, inr, ℕ, zero, suc, ◌+◌, ◌<◌, Bool, true, false, cond, ◌&&◌, ◌||◌, List, [], ◌∷◌, ◌++◌, take, drop, Some, slice_get, refl, sym, ap, ◌∙◌, arith}
use Rattle.std.specs.Prelude.{if◌then◌else◌, filter, ◌==◌}
use Rattle.std.specs.List.{flat_map, list_any}
use Rattle.std.proofs.lemmas.Bool.Decides.{nat_tests}
use Rattle.rtlil_text.specs.declared.doc.DocWire.{DocWire}
use Rattle.rtlil_text.specs.declared.doc.Item.{Item}
use Rattle.rtlil_text.specs.declared.doc.Item.TheVariants as item
use Rattle.rtlil_text.specs.Grammar.{All}
use Rattle.net_core.specs.declared.bits.Bit.{Bit}
use Rattle.net_core.specs.declared.bits.Bit.TheVariants as bits
use Rattle.net_core.specs.declared.cells.Carried.{Carried}
use Rattle.net_core.specs.declared.cells.Pin.{Pin}
use Rattle.net_core.specs.declared.modules.Wire.{Wire}
use Rattle.net_core.specs.Ports.{bits_of_pins, Interface, inout_pin_bits, is_inout, is_inout_pin, wire_bits}
use Rattle.net_wires.specs.declared.source.Source.{Source}
use Rattle.net_wires.specs.declared.source.Source.TheVariants as source
use Rattle.net_wires.specs.Drivers.{is_place}
use Rattle.net_wires.specs.Nets.{bit_of}
use Rattle.net_wires.specs.Signals.{run_bits}
use Rattle.raw_cells.specs.declared.raw.CellShape.{CellShape}
use Rattle.raw_cells.specs.declared.raw.CellShape.TheVariants as shape
use Rattle.raw_cells.specs.declared.raw.RawCell.{RawCell}
use Rattle.raw_cells.specs.declared.raw.RawPin.{RawPin}
use Rattle.raw_cells.specs.Bits.{bits_of}
use Rattle.raw_cells.specs.Clocks.{place_bit}
use Rattle.net_cells.specs.Cells.{carried_of, pin_of, pins_of}
use Rattle.net_cells.specs.Wires.{wire_of, wires_from}
use Rattle.net_checks.specs.declared.inouts.Inouts.{Inouts}
use Rattle.net_checks.specs.declared.marking.Port.TheVariants as port
use Rattle.net_checks.specs.Inouts.{cell_inouts, has_inout, pin_inouts, shape_inouts}
use Rattle.net_checks.specs.Marks.{port_bits}
use Rattle.net_module.specs.Assembly.{carried_by, carried_cells}
use Rattle.net_fits.proofs.Ends.{Behind, behind_more, behind_none}
use Rattle.net_fits.proofs.Lists.{all_join, all_left, all_right}
use Rattle.net_fits.proofs.Solved.{run_from, runs_alike}

-- ---- bits of wires

take_front : (n : ℕ) (bs : List Bit) (i : ℕ) (b : Bit) → slice_get (take n bs) i ≡ Some b → (slice_get bs i ≡ Some b) × (i < n)
take_front zero bs i b e = absurd cc
take_front (suc n) [] i b e = absurd cc
take_front (suc n) (x ∷ xs) zero b e = (e, omega arith)
take_front (suc n) (x ∷ xs) (suc i) b e = let rest = take_front n xs i b e in (rest.0, (let h = rest.1 in omega (arith, h)))

-- an item of two lists stands in the first, or behind it
pub in_either : {X : Type 0} (xs ys : List X) (k : ℕ) (x : X) → slice_get (xs ++ ys) k ≡ Some x → (slice_get xs k ≡ Some x) ⊎ ((j : ℕ) × (slice_get ys j ≡ Some x))
in_either [] ys k x e = inr (k, e)
in_either (y ∷ xs) ys zero x e = inl e
in_either (y ∷ xs) ys (suc k) x e = in_either xs ys k x e

-- the bits of wires are places, in their order
wire_front : (w : ℕ) (left ys : List Bit) → ((i : ℕ) (b : Bit) → slice_get ys i ≡ Some b → slice_get (drop w left) i ≡ Some b) → (i : ℕ) (b : Bit) → slice_get (take w left ++ ys) i ≡ Some b → slice_get left i ≡ Some b
wire_front zero left ys f i b e = f i b e
wire_front (suc w) [] ys f i b e = f i b e
wire_front (suc w) (x ∷ xs) ys f zero b e = e
wire_front (suc w) (x ∷ xs) ys f (suc i) b e = wire_front w xs ys f i b e

pub wires_front : (left : List Bit) (is : List Item) (i : ℕ) (b : Bit) → slice_get (wire_bits (wires_from left is)) i ≡ Some b → slice_get left i ≡ Some b
unfolding wires_from wire_of
wires_front left [] i b e = absurd cc
wires_front left (item.Wire w ∷ is) i b e = wire_front w.width left (wire_bits (wires_from (drop w.width left) is)) (λ j c at. wires_front (drop w.width left) is j c at) i b e
wires_front left (item.Param p ∷ is) i b e = wires_front left is i b e
wires_front left (item.Mem m ∷ is) i b e = wires_front left is i b e
wires_front left (item.Cell c ∷ is) i b e = wires_front left is i b e
wires_front left (item.Connect l r ∷ is) i b e = wires_front left is i b e

-- ---- bits of inout wires

or_left : (a b : Bool) → a ≡ true → (a || b) ≡ true
or_left true b e = refl
or_left false b e = absurd cc

or_right : (a b : Bool) → b ≡ true → (a || b) ≡ true
or_right true b e = refl
or_right false b e = e

or_case : (a b c : Bool) → (a || b) ≡ true → (b ≡ true → c ≡ true) → (a || c) ≡ true
or_case true b c e f = refl
or_case false b c e f = f e

pub any_left : (p : Source → Bool) (xs ys : List Source) → list_any p xs ≡ true → list_any p (xs ++ ys) ≡ true
any_left p [] ys e = absurd cc
any_left p (x ∷ xs) ys e = or_case (p x) (list_any p xs) (list_any p (xs ++ ys)) e (any_left p xs ys)

pub any_right : (p : Source → Bool) (xs ys : List Source) → list_any p ys ≡ true → list_any p (xs ++ ys) ≡ true
any_right p [] ys e = e
any_right p (x ∷ xs) ys e = or_right (p x) (list_any p (xs ++ ys)) (any_right p xs ys e)

same_place : (p q : ℕ) → p ≡ q → (p == q) ≡ true
same_place p q e = grind (arith, nat_tests)

run_has : (from width k : ℕ) → k < width → list_any (is_place (from + k)) (run_from from width) ≡ true
run_has from zero k h = absurd (omega (arith, h))
run_has from (suc width) zero h = let e : from ≡ from + 0 = omega arith in or_left (from == (from + 0)) _ (same_place from (from + 0) e)
run_has from (suc width) (suc k) h =
    let e : from + suc k ≡ from + 1 + k = omega arith in
    or_right (from == (from + suc k)) (list_any (is_place (from + suc k)) (run_from (from + 1) width)) (ap (λ q. list_any (is_place q) (run_from (from + 1) width)) e ∙ run_has (from + 1) width k (omega (arith, h)))

run_holds : (from width k : ℕ) → k < width → list_any (is_place (from + k)) (run_bits from width) ≡ true
run_holds from width k h = ap (list_any (is_place (from + k))) (runs_alike from width) ∙ run_has from width k h

-- the place of a bit among these
record PlaceAmong (places : List Bit) (ss : List Source) (b : Bit) : Type 0 where
  place : ℕ
  has : slice_get places place ≡ Some b
  among : list_any (is_place place) ss ≡ true

inout_case : (t : Bool) (places left : List Bit) (from : ℕ) (w : DocWire) (ws : List Wire) (later : List Source) (k : ℕ) (b : Bit) → Behind places from left
    → ((j : ℕ) → slice_get (wire_bits ws) j ≡ Some b → PlaceAmong places later b)
    → slice_get (wire_bits (cond t (wire_of (take w.width left) w ∷ ws) ws)) k ≡ Some b → PlaceAmong places ((if t then run_bits from w.width else []) ++ later) b
unfolding wire_of
inout_case false places left from w ws later k b behind rec e = rec k e
inout_case true places left from w ws later k b behind rec e =
    elim (in_either (take w.width left) (wire_bits ws) k b e) [
      | inl here ↦
          let at = take_front w.width left k b here in
          record {
            place = from + k;
            has = sym (behind k) ∙ at.0;
            among = any_left (is_place (from + k)) (run_bits from w.width) later (run_holds from w.width k at.1);
          }
      | inr there ↦
          let rest = rec there.0 there.1 in
          record { place = rest.place; has = rest.has; among = any_right (is_place rest.place) (run_bits from w.width) later rest.among }
    ]

inouts_from : (places : List Bit) (from : ℕ) (left : List Bit) (is : List Item) → Behind places from left → (k : ℕ) (b : Bit) → slice_get (wire_bits (filter is_inout (wires_from left is))) k ≡ Some b → PlaceAmong places (port_bits port.Inout from is) b
unfolding wires_from wire_of
inouts_from places from left [] behind k b e = absurd cc
inouts_from places from left (item.Wire w ∷ is) behind k b e =
    inout_case (w.input && w.output) places left from w (filter is_inout (wires_from (drop w.width left) is)) (port_bits port.Inout (from + w.width) is) k b behind
    (λ j at. inouts_from places (from + w.width) (drop w.width left) is (behind_more places w.width from left behind) j b at) e
inouts_from places from left (item.Param p ∷ is) behind k b e = inouts_from places from left is behind k b e
inouts_from places from left (item.Mem m ∷ is) behind k b e = inouts_from places from left is behind k b e
inouts_from places from left (item.Cell c ∷ is) behind k b e = inouts_from places from left is behind k b e
inouts_from places from left (item.Connect l r ∷ is) behind k b e = inouts_from places from left is behind k b e

pub wire_place : (places : List Bit) (is : List Item) (k : ℕ) (b : Bit) → slice_get (wire_bits (filter is_inout (wires_from places is))) k ≡ Some b → (p : ℕ) × (slice_get places p ≡ Some b) × (list_any (is_place p) (port_bits port.Inout 0 is) ≡ true)
wire_place places is k b e = let found = inouts_from places 0 places is (behind_none places) k b e in (found.place, found.has, found.among)

-- ---- bits of inout pins

module _ (places : List Bit) (all : List Source) where
  -- a place among all
  abbrev Among : Source → Type 0
  Among (source.At p) = list_any (is_place p) all ≡ true
  Among source.Zero = Unit {0}
  Among source.One = Unit {0}
  Among source.Loose = Unit {0}

  -- a net that stands at a place among all
  abbrev pub Stands : Bit → Type 0
  Stands b = (n : ℕ) → b ≡ bits.Net n → (p : ℕ) × (place_bit places p ≡ bits.Net n) × (list_any (is_place p) all ≡ true)

  source_stands : (s : Source) → Among s → Stands (bit_of places s)
  source_stands source.Zero a n e = absurd cc
  source_stands source.One a n e = absurd cc
  source_stands source.Loose a n e = absurd cc
  source_stands (source.At p) a n e = (p, e, a)

  sources_stand : (ss : List Source) → All Among ss → All Stands (bits_of places ss)
  sources_stand [] a = tt
  sources_stand (s ∷ ss) a = (source_stands s a.0, sources_stand ss a.1)

  abbrev Inside : List Source → Type 0
  Inside ss = (p : ℕ) → list_any (is_place p) ss ≡ true → list_any (is_place p) all ≡ true

  own_place : (p : ℕ) → (p == p) ≡ true
  own_place p = same_place p p refl

  one_among : (s : Source) (ss : List Source) → Inside (s ∷ ss) → Among s
  one_among source.Zero ss f = tt
  one_among source.One ss f = tt
  one_among source.Loose ss f = tt
  one_among (source.At p) ss f = f p (or_left (p == p) (list_any (is_place p) ss) (own_place p))

  all_among : (ss : List Source) → Inside ss → All Among ss
  all_among [] f = tt
  all_among (s ∷ ss) f = (one_among s ss f, all_among ss (λ p e. f p (or_right (is_place p s) (list_any (is_place p) ss) e)))

  front_inside : (xs ys : List Source) → Inside (xs ++ ys) → Inside xs
  front_inside xs ys f p e = f p (any_left (is_place p) xs ys e)

  rest_inside : (xs ys : List Source) → Inside (xs ++ ys) → Inside ys
  rest_inside xs ys f p e = f p (any_right (is_place p) xs ys e)

  module _ (x : Inouts) (modules : List Interface) (told : (kind name : List ℕ) → has_inout x kind name ≡ is_inout_pin modules kind name) where
    pin_case : (t u : Bool) (q : RawPin) (qs : List Pin) → t ≡ u → Inside (if t then q.bits else []) → All Stands (bits_of_pins qs) → All Stands (bits_of_pins (cond u (pin_of places q ∷ qs) qs))
    pin_case true true q qs e f a = all_join Stands (bits_of places q.bits) (bits_of_pins qs) (sources_stand q.bits (all_among q.bits f)) a
    pin_case false false q qs e f a = a
    pin_case true false q qs e f a = absurd cc
    pin_case false true q qs e f a = absurd cc

    pins_stand : (kind : List ℕ) (ps : List RawPin) → Inside (flat_map (pin_inouts x kind) ps) → All Stands (bits_of_pins (filter (λ (p : Pin). is_inout_pin modules kind p.name) (pins_of places ps)))
    pins_stand kind [] f = tt
    pins_stand kind (p ∷ ps) f =
        pin_case (has_inout x kind p.name) (is_inout_pin modules kind p.name) p (filter (λ (q : Pin). is_inout_pin modules kind q.name) (pins_of places ps)) (told kind p.name)
        (front_inside (pin_inouts x kind p) (flat_map (pin_inouts x kind) ps) f) (pins_stand kind ps (rest_inside (pin_inouts x kind p) (flat_map (pin_inouts x kind) ps) f))

    shape_stands : (name : List ℕ) (s : CellShape) (ps : List RawPin) → Inside (shape_inouts x s ps) → All Stands (flat_map (inout_pin_bits modules) (carried_by places name s ps))
    unfolding carried_of
    shape_stands name (shape.Comb r) ps f = tt
    shape_stands name (shape.Reg r) ps f = tt
    shape_stands name (shape.Carried k) ps f = all_join Stands (bits_of_pins (filter (λ (p : Pin). is_inout_pin modules k.kind p.name) (pins_of places ps))) [] (pins_stand k.kind ps f) tt
    shape_stands name (shape.Memory k r) ps f = tt
    shape_stands name (shape.Ram u) ps f = tt

    joined : (xs ys : List Carried) → All Stands (flat_map (inout_pin_bits modules) xs) → All Stands (flat_map (inout_pin_bits modules) ys) → All Stands (flat_map (inout_pin_bits modules) (xs ++ ys))
    joined [] ys a b = b
    joined (c ∷ cs) ys a b =
        let here = inout_pin_bits modules c in
        all_join Stands here (flat_map (inout_pin_bits modules) (cs ++ ys)) (all_left Stands here (flat_map (inout_pin_bits modules) cs) a) (joined cs ys (all_right Stands here (flat_map (inout_pin_bits modules) cs) a) b)

    pub cells_stand : (cs : List RawCell) → Inside (flat_map (cell_inouts x) cs) → All Stands (flat_map (inout_pin_bits modules) (carried_cells places cs))
    cells_stand [] f = tt
    cells_stand (c ∷ cs) f =
        joined (carried_by places c.name c.shape c.pins) (carried_cells places cs) (shape_stands c.name c.shape c.pins (front_inside (cell_inouts x c) (flat_map (cell_inouts x) cs) f))
        (cells_stand cs (rest_inside (cell_inouts x c) (flat_map (cell_inouts x) cs) f))
