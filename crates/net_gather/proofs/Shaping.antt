-- What connects alone tell of the pins of a cell, and what is found for them.
use Rattle.std.proofs.Common.{◌≡◌, ◌⊎◌, inl, inr, ℕ, zero, suc, ◌+◌, ◌<◌, ◌≤◌, Bool, true, false, cond, List, [], ◌∷◌, ◌++◌, map, length, get_or, replicate, Some, refl, sym, ap, subst, ◌∙◌, arith}
use Rattle.std.specs.Prelude.{slice_get, slice_set}
use Rattle.std.specs.List.{range_with_len}
use Rattle.std.proofs.lemmas.Bool.{cases_eq}
use Rattle.std.proofs.lemmas.List.{length-replicate, length-set}
use Rattle.std.proofs.lemmas.List.FromFn.{length-map-range_with_len}
use Rattle.std.proofs.lemmas.Option.{same_Some, slice_get-get_or, slice_get_within}
use Rattle.rtlil_text.specs.Grammar.{All}
use Rattle.net_core.specs.declared.bits.Bit.{Bit}
use Rattle.net_core.specs.declared.bits.Bit.TheVariants as bits
use Rattle.net_core.specs.declared.bits.Clock.{Clock}
use Rattle.net_core.specs.Logic.{xor}
use Rattle.net_core.specs.Shape.{is_never}
use Rattle.net_wires.specs.declared.clock.ClockRoot.{ClockRoot}
use Rattle.net_wires.specs.declared.clock.ClockRoot.TheVariants as leads
use Rattle.net_wires.specs.declared.clock.Drive.{Drive}
use Rattle.net_wires.specs.declared.clock.Drive.TheVariants as drive
use Rattle.net_wires.specs.declared.link.Link.{Link}
use Rattle.net_wires.specs.declared.link.Link.TheVariants as links
use Rattle.net_wires.specs.declared.source.Pair.{Pair}
use Rattle.net_wires.specs.declared.source.Source.{Source}
use Rattle.net_wires.specs.declared.source.Source.TheVariants as source
use Rattle.net_wires.specs.Clocks.{driven_by, IsConstant, tied_digits}
use Rattle.net_wires.specs.Links.{links_of, PairsWithin, SourcesWithin}
use Rattle.net_wires.specs.Settled.{settled}
use Rattle.net_wires.specs.Ties.{walk}
use Rattle.net_wires.proofs.Driven.{range_at}
use Rattle.net_wires.proofs.Places.{set_other}
use Rattle.net_wires.proofs.Ready.{length_links, links_own, links_within}
use Rattle.net_wires.proofs.Walks.{walk_end}
use Rattle.ram_rows.specs.declared.pins.SlotPin.TheVariants as pin
use Rattle.ram_rows.specs.RamNames.{slot_name}
use Rattle.ram_rows.specs.RamPins.{suffix}
use Rattle.raw_cells.specs.declared.raw.RawPin.{RawPin}
use Rattle.raw_cells.specs.declared.tied.Tied.{Tied}
use Rattle.raw_cells.specs.Clocks.{clock_by, place_bit, root_clock}
use Rattle.raw_cells.specs.Tied.{digits_of, end_bit, end_of, end_root, is_digit, link_bits, link_roots, marked, tied_of}
use Rattle.raw_cells.proofs.Alike.{IsAlike}
use Rattle.raw_cells.proofs.Ends.{end_found}
use Rattle.raw_cells.proofs.Slots.{BitsTied, ClockTied, PinsTied, PinTied, Seen}
use Rattle.net_gather.specs.declared.gathering.Gathered.{Gathered}
use Rattle.net_gather.specs.declared.open_pin.OpenPin.{OpenPin}
use Rattle.net_gather.specs.declared.open_pin.PinBits.{PinBits}
use Rattle.net_gather.specs.declared.open_pin.PinBits.TheVariants.{Given, LeftOut}
use Rattle.net_gather.specs.Laws.{Agrees, digit_drives, IsNet, NeverFrom}
use Rattle.net_gather.specs.OpenPins.{bits_of, bits_open, is_given, known_bits, known_pins, known_source, raw_pins}
use Rattle.net_gather.proofs.Within.{BitsWithin, PinsWithin}

-- ---- tables

at_front : {X : Type 0} (xs ys : List X) (p : ℕ) (x d : X) → slice_get xs p ≡ Some x → get_or (xs ++ ys) p d ≡ x
at_front [] ys p x d e = cc
at_front (y ∷ xs) ys zero x d e = same_Some y x e
at_front (y ∷ xs) ys (suc p) x d e = at_front xs ys p x d e

at_back : {X : Type 0} (xs ys : List X) (k : ℕ) (d : X) → get_or (xs ++ ys) (length xs + k) d ≡ get_or ys k d
at_back [] ys k d = let e : 0 + k ≡ k = omega arith in ap (λ n. get_or ys n d) e
at_back (x ∷ xs) ys k d = let e : suc (length xs) + k ≡ suc (length xs + k) = omega arith in ap (λ n. get_or (x ∷ (xs ++ ys)) n d) e ∙ at_back xs ys k d

behind : {X : Type 0} (f : ℕ → X) (m n k : ℕ) (ys : List X) (d : X) → m ≡ n → get_or (map f (range_with_len 0 m) ++ ys) (n + k) d ≡ get_or ys k d
behind f m n k ys d e =
    let long : n + k ≡ length (map f (range_with_len 0 m)) + k = omega (arith, e, length-map-range_with_len f 0 m) in
    ap (λ i. get_or (map f (range_with_len 0 m) ++ ys) i d) long ∙ at_back (map f (range_with_len 0 m)) ys k d

set_there : {X : Type 0} (xs : List X) (i : ℕ) (x : X) → i < length xs → slice_get (slice_set xs i x) i ≡ Some x
set_there [] i x h = absurd (omega (arith, h))
set_there (y ∷ xs) zero x h = refl
set_there (y ∷ xs) (suc i) x h = set_there xs i x (omega (arith, h))

is_there : (xs : List Bool) (p : ℕ) → get_or xs p false ≡ true → slice_get xs p ≡ Some true
is_there [] p e = cc
is_there (x ∷ xs) zero e = ap (λ b. Some b) e
is_there (x ∷ xs) (suc p) e = is_there xs p e

none_marked : (n p : ℕ) → slice_get (replicate n false) p ≡ Some true → slice_get (replicate n drive.Open) p ≡ Some drive.Digit
none_marked zero p e = cc
none_marked (suc n) zero e = absurd (let f : false ≡ true = same_Some false true e in cc)
none_marked (suc n) (suc p) e = none_marked n p e

-- places that are marked are driven by a digit
marks_drive : (ms : List Bool) (ds : List Drive) (ps : List ℕ) → length ms ≡ length ds → ((p : ℕ) → slice_get ms p ≡ Some true → slice_get ds p ≡ Some drive.Digit)
    → (p : ℕ) → slice_get (marked ms ps) p ≡ Some true → slice_get (driven_by drive.Digit ds ps) p ≡ Some drive.Digit
marks_drive ms ds [] long old p e = old p e
marks_drive ms ds (q ∷ ps) long old p e =
    marks_drive (slice_set ms q true) (slice_set ds q drive.Digit) ps (length-set ms q true ∙ long ∙ sym (length-set ds q drive.Digit))
    (λ k at. elim (cases_eq k q) [
      | inl same ↦
          let there : k < length ds = omega (arith, slice_get_within (slice_set ms q true) k true at, length-set ms q true, long) in
          let here : q < length ds = omega (arith, there, same) in
          ap (λ i. slice_get (slice_set ds q drive.Digit) i) same ∙ set_there ds q drive.Digit here
      | inr other ↦ set_other ds q k drive.Digit other ∙ old k (sym (set_other ms q k true other) ∙ at)
    ]) p e

digit_driven : (n : ℕ) (ps : List Pair) (p : ℕ) → is_digit (digits_of n ps) p ≡ true → slice_get (digit_drives n (tied_digits ps)) p ≡ Some drive.Digit
digit_driven n ps p e =
    marks_drive (replicate n false) (replicate n drive.Open) (tied_digits ps) (length-replicate n false ∙ sym (length-replicate n drive.Open)) (none_marked n) p (is_there (digits_of n ps) p e)

-- ---- where connects lead to a digit of a constant

abbrev IsDigitEnd : List Bool → Link → Type 0
IsDigitEnd ds links.Zero = Unit {0}
IsDigitEnd ds links.One = Unit {0}
IsDigitEnd ds (links.End o) = is_digit ds o ≡ true
IsDigitEnd ds (links.To q) = ⊥

-- one connect further, where the rest of the way is known
constant_by : (n : ℕ) (ps : List Pair) → PairsWithin n ps → (k p : ℕ) (x e : Link) → ((q : ℕ) → q < n → walk (links_of n ps) k (links.To q) ≡ e → IsConstant (links_of n ps) (digit_drives n (tied_digits ps)) q)
    → slice_get (links_of n ps) p ≡ Some x → walk (links_of n ps) k x ≡ e → IsDigitEnd (digits_of n ps) e → IsConstant (links_of n ps) (digit_drives n (tied_digits ps)) p
constant_by n ps w k p links.Zero e more at is h = IsConstant.zero p at
constant_by n ps w k p links.One e more at is h = IsConstant.one p at
constant_by n ps w k p (links.End o) e more at is h =
    let same : links.End o ≡ e = sym (walk_end (links_of n ps) k (links.End o) refl) ∙ is in
    let here : is_digit (digits_of n ps) o ≡ true = subst (IsDigitEnd (digits_of n ps)) (sym same) h in
    IsConstant.digit p o at (digit_driven n ps p (ap (is_digit (digits_of n ps)) (sym (links_own n ps p o at)) ∙ here))
constant_by n ps w k p (links.To q) e more at is h =
    let lt : q < n = omega (arith, links_within n ps w p q at, length_links n ps) in
    IsConstant.connect p q at (more q lt is)

constant_found : (n : ℕ) (ps : List Pair) → PairsWithin n ps → (k p : ℕ) (e : Link) → p < n → walk (links_of n ps) k (links.To p) ≡ e → IsDigitEnd (digits_of n ps) e → IsConstant (links_of n ps) (digit_drives n (tied_digits ps)) p
constant_found n ps w zero p e lt is h = absurd (subst (IsDigitEnd (digits_of n ps)) (sym is) h)
constant_found n ps w (suc k) p e lt is h =
    let there : p < length (links_of n ps) = omega (arith, lt, length_links n ps) in
    constant_by n ps w k p (get_or (links_of n ps) p (links.To p)) e (λ q less rest. constant_found n ps w k q e less rest h) (slice_get-get_or (links_of n ps) p (links.To p) there) is h

-- ---- what connects alone tell

abbrev tied_in : Gathered → Tied
tied_in m = tied_of m.wire_places m.pairs

abbrev pub before : Gathered → Seen
before m = record { places = (tied_in m).places; roots = (tied_in m).roots }

abbrev pub after : List Bit → List ClockRoot → Seen
after places roots = record { places = places; roots = roots }

abbrev table_in : Gathered → List Link
table_in m = links_of m.wire_places m.pairs

wire_bit : (m : Gathered) (p : ℕ) → p < m.wire_places → get_or (tied_in m).places p bits.Zero ≡ end_bit (end_of (table_in m) p)
wire_bit m p lt =
    let there : p < length (table_in m) = omega (arith, lt, length_links m.wire_places m.pairs) in
    at_front (link_bits (table_in m)) _ p _ bits.Zero (range_at (λ k. end_bit (end_of (table_in m) k)) (length (table_in m)) p there)

wire_root : (m : Gathered) (p : ℕ) → p < m.wire_places → get_or (tied_in m).roots p leads.Unknown ≡ end_root m.wire_places (digits_of m.wire_places m.pairs) (end_of (table_in m) p)
wire_root m p lt =
    let there : p < length (table_in m) = omega (arith, lt, length_links m.wire_places m.pairs) in
    at_front (link_roots (table_in m) m.wire_places (digits_of m.wire_places m.pairs)) _ p _ leads.Unknown
    (range_at (λ k. end_root m.wire_places (digits_of m.wire_places m.pairs) (end_of (table_in m) k)) (length (table_in m)) p there)

left_bit : (m : Gathered) → get_or (tied_in m).places m.wire_places bits.Zero ≡ bits.Net 0
left_bit m =
    let e : m.wire_places ≡ m.wire_places + 0 = omega arith in
    ap (λ i. get_or (tied_in m).places i bits.Zero) e ∙ behind (λ k. end_bit (end_of (table_in m) k)) (length (table_in m)) m.wire_places 0 _ bits.Zero (length_links m.wire_places m.pairs)

digit_bit : (m : Gathered) → get_or (tied_in m).places (m.wire_places + 1) bits.Zero ≡ bits.Net 0
digit_bit m = behind (λ k. end_bit (end_of (table_in m) k)) (length (table_in m)) m.wire_places 1 _ bits.Zero (length_links m.wire_places m.pairs)

left_root : (m : Gathered) → get_or (tied_in m).roots m.wire_places leads.Unknown ≡ leads.Root m.wire_places false
left_root m =
    let e : m.wire_places ≡ m.wire_places + 0 = omega arith in
    ap (λ i. get_or (tied_in m).roots i leads.Unknown) e
    ∙ behind (λ k. end_root m.wire_places (digits_of m.wire_places m.pairs) (end_of (table_in m) k)) (length (table_in m)) m.wire_places 0 _ leads.Unknown (length_links m.wire_places m.pairs)

-- ---- bits

zero_alike : (b : Bit) → b ≡ bits.Zero → IsAlike bits.Zero b
zero_alike b e = subst (IsAlike bits.Zero) (sym e) tt

one_alike : (b : Bit) → b ≡ bits.One → IsAlike bits.One b
one_alike b e = subst (IsAlike bits.One) (sym e) tt

nets_alike : (a b : Bit) → a ≡ bits.Net 0 → IsNet b → IsAlike a b
nets_alike a b e n = subst (λ (x : Bit). IsAlike x b) (sym e) (subst (IsAlike (bits.Net 0)) (sym n.1) tt)

module _ (m : Gathered) (places : List Bit) (roots : List ClockRoot) (w : PairsWithin m.wire_places m.pairs) (g : Agrees m places roots) where
  told : (p : ℕ) (e : Link) → p < m.wire_places → end_of (table_in m) p ≡ e → IsAlike (end_bit e) (place_bit places p)
  told p links.Zero lt is = zero_alike (place_bit places p) (g.zero p lt (length (table_in m), is, refl))
  told p links.One lt is = one_alike (place_bit places p) (g.one p lt (length (table_in m), is, refl))
  told p (links.End o) lt is =
      let there : p < length (table_in m) = omega (arith, lt, length_links m.wire_places m.pairs) in
      nets_alike (bits.Net 0) (place_bit places p) refl (g.net p lt
      (λ l. let x : links.Zero ≡ links.End o = sym (end_found (table_in m) p links.Zero (links_within m.wire_places m.pairs w) there l) ∙ is in cc)
      (λ l. let x : links.One ≡ links.End o = sym (end_found (table_in m) p links.One (links_within m.wire_places m.pairs w) there l) ∙ is in cc))
  told p (links.To q) lt is =
      let there : p < length (table_in m) = omega (arith, lt, length_links m.wire_places m.pairs) in
      nets_alike (bits.Net 0) (place_bit places p) refl (g.net p lt
      (λ l. let x : links.Zero ≡ links.To q = sym (end_found (table_in m) p links.Zero (links_within m.wire_places m.pairs w) there l) ∙ is in cc)
      (λ l. let x : links.One ≡ links.To q = sym (end_found (table_in m) p links.One (links_within m.wire_places m.pairs w) there l) ∙ is in cc))

  wire_alike : (p : ℕ) → p < m.wire_places → IsAlike (get_or (tied_in m).places p bits.Zero) (get_or places p bits.Zero)
  wire_alike p lt = subst (λ (x : Bit). IsAlike x (get_or places p bits.Zero)) (sym (wire_bit m p lt)) (told p (end_of (table_in m) p) lt refl)

  given_tied : (next : ℕ) (ss : List Source) → SourcesWithin m.wire_places ss → m.wire_places ≤ next → SourcesWithin m.places (settled next ss)
      → BitsTied (before m) (after places roots) (map (known_source (tied_in m)) ss) (settled next ss)
  given_tied next [] h le k = tt
  given_tied next (source.Zero ∷ ss) h le k = (tt, given_tied next ss h.1 le k.1)
  given_tied next (source.One ∷ ss) h le k = (tt, given_tied next ss h.1 le k.1)
  given_tied next (source.At p ∷ ss) h le k = (wire_alike p h.0, given_tied next ss h.1 le k.1)
  given_tied next (source.Loose ∷ ss) h le k = (nets_alike _ _ (digit_bit m) (g.unwired next le k.0), given_tied (next + 1) ss h.1 (omega (arith, le)) k.1)

  left_tied : (next width : ℕ) → m.wire_places ≤ next → SourcesWithin m.places (settled next (replicate width source.Loose))
      → BitsTied (before m) (after places roots) (replicate width (source.At m.wire_places)) (settled next (replicate width source.Loose))
  left_tied next zero le k = tt
  left_tied next (suc width) le k = (nets_alike _ _ (left_bit m) (g.unwired next le k.0), left_tied (next + 1) width (omega (arith, le)) k.1)

  bits_tied : (next : ℕ) (b : PinBits) → BitsWithin m.wire_places b → m.wire_places ≤ next → SourcesWithin m.places (settled next (bits_of b))
      → BitsTied (before m) (after places roots) (known_bits (tied_in m) b) (settled next (bits_of b))
  bits_tied next (Given ss) h le k = given_tied next ss h le k
  bits_tied next (LeftOut width) h le k = left_tied next width le k

  -- ---- clocks

  never_found : (r : ClockRoot) (rising : Bool) → r ≡ leads.Never → is_never (clock_by places rising r) ≡ true
  never_found r rising e = ap (λ (x : ClockRoot). is_never (clock_by places rising x)) e

  some_ticks : (rising : Bool) → is_never (clock_by (tied_in m).places rising (leads.Root m.wire_places false)) ≡ true → ⊥
  some_ticks rising e = let f : false ≡ true = sym (ap (λ (b : Bit). is_never (root_clock b (xor rising false))) (left_bit m)) ∙ e in cc

  by_digit : (p o : ℕ) (t : Bool) (rising : Bool) → is_digit (digits_of m.wire_places m.pairs) o ≡ t → p < m.wire_places → end_of (table_in m) p ≡ links.End o
      → is_never (clock_by (tied_in m).places rising (cond t leads.Never (leads.Root m.wire_places false))) ≡ true → is_never (clock_by places rising (get_or roots p leads.Unknown)) ≡ true
  by_digit p o true rising d lt is e = never_found _ rising (g.never p lt (constant_found m.wire_places m.pairs w (length (table_in m)) p (links.End o) lt is d))
  by_digit p o false rising d lt is e = absurd (some_ticks rising e)

  by_end : (p : ℕ) (x : Link) (rising : Bool) → p < m.wire_places → end_of (table_in m) p ≡ x
      → is_never (clock_by (tied_in m).places rising (end_root m.wire_places (digits_of m.wire_places m.pairs) x)) ≡ true → is_never (clock_by places rising (get_or roots p leads.Unknown)) ≡ true
  by_end p links.Zero rising lt is e = never_found _ rising (g.never p lt (constant_found m.wire_places m.pairs w (length (table_in m)) p links.Zero lt is tt))
  by_end p links.One rising lt is e = never_found _ rising (g.never p lt (constant_found m.wire_places m.pairs w (length (table_in m)) p links.One lt is tt))
  by_end p (links.End o) rising lt is e = by_digit p o (is_digit (digits_of m.wire_places m.pairs) o) rising refl lt is e
  by_end p (links.To q) rising lt is e = absurd (some_ticks rising e)

  wire_clock : (p : ℕ) (rising : Bool) → p < m.wire_places → is_never (clock_by (tied_in m).places rising (get_or (tied_in m).roots p leads.Unknown)) ≡ true
      → is_never (clock_by places rising (get_or roots p leads.Unknown)) ≡ true
  wire_clock p rising lt e = by_end p (end_of (table_in m) p) rising lt refl (sym (ap (λ (x : ClockRoot). is_never (clock_by (tied_in m).places rising x)) (wire_root m p lt)) ∙ e)

  clock_tied : (next : ℕ) (b : PinBits) → BitsWithin m.wire_places b → m.wire_places ≤ next → (is_given b ≡ true → NeverFrom m.wire_places roots (settled next (bits_of b)))
      → ClockTied (before m) (after places roots) (known_bits (tied_in m) b) (settled next (bits_of b))
  clock_tied next (Given []) h le f = λ rising e. refl
  clock_tied next (Given (source.Zero ∷ ss)) h le f = λ rising e. refl
  clock_tied next (Given (source.One ∷ ss)) h le f = λ rising e. refl
  clock_tied next (Given (source.At p ∷ ss)) h le f = λ rising e. wire_clock p rising h.0 e
  clock_tied next (Given (source.Loose ∷ ss)) h le f = λ rising e. never_found _ rising ((f refl).0 le)
  clock_tied next (LeftOut zero) h le f = λ rising e. refl
  clock_tied next (LeftOut (suc width)) h le f = λ rising e. absurd (some_ticks rising (sym (ap (λ (x : ClockRoot). is_never (clock_by (tied_in m).places rising x)) (left_root m)) ∙ e))

  -- ---- pins

  pub pins_tied : (next : ℕ) (ps : List OpenPin) → PinsWithin m.wire_places ps → All (λ (p : OpenPin). (slot : List ℕ) → p.name ≡ slot_name slot (suffix pin.Clk) → p.clock ≡ true) ps → m.wire_places ≤ next
      → All (λ (p : RawPin). SourcesWithin m.places p.bits) (raw_pins next ps) → All (λ (p : RawPin). p.clock ≡ true → p.given ≡ true → NeverFrom m.wire_places roots p.bits) (raw_pins next ps)
      → PinsTied (before m) (after places roots) (known_pins (tied_in m) ps) (raw_pins next ps)
  pins_tied next [] h c le k d = tt
  pins_tied next (p ∷ ps) h c le k d = (
    record {
      name = refl;
      bits = bits_tied next p.bits h.0 le k.0;
      clock = λ slot e. clock_tied next p.bits h.0 le (λ given. d.0 (c.0 slot e) given);
    },
    pins_tied (next + bits_open p.bits) ps h.1 c.1 (omega (arith, le)) k.1 d.1,
  )
