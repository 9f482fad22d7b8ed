-- The bits and the clocks of places agree with what connects alone tell.
use Rattle.std.proofs.Common.{◌≡◌, ℕ, zero, suc, ◌≤◌, ◌<◌, Bool, true, false, not, ◌&&◌, List, [], ◌∷◌, length, get_or, Some, slice_get, refl, subst, arith}
use Rattle.std.specs.Prelude.{if◌then◌else◌, nat_lt}
use Rattle.std.specs.List.{flat_map}
use Rattle.std.proofs.lemmas.Bool.Decides.{nat_tests}
use Rattle.std.proofs.lemmas.Option.{get_or_from_slice_get, slice_get-get_or}
use Rattle.rtlil_text.specs.declared.doc.Item.{Item}
use Rattle.rtlil_text.specs.Grammar.{All}
use Rattle.net_core.specs.declared.bits.Bit.{Bit}
use Rattle.net_core.specs.declared.bits.Bit.TheVariants as bits
use Rattle.net_wires.specs.declared.clock.ClockRoot.{ClockRoot}
use Rattle.net_wires.specs.declared.clock.ClockRoot.TheVariants as leads
use Rattle.net_wires.specs.declared.clock.Drive.{Drive}
use Rattle.net_wires.specs.declared.clock.Drive.TheVariants as drive
use Rattle.net_wires.specs.declared.link.Link.{Link}
use Rattle.net_wires.specs.declared.link.Link.TheVariants as links
use Rattle.net_wires.specs.declared.source.Source.{Source}
use Rattle.net_wires.specs.declared.source.Source.TheVariants as source
use Rattle.net_wires.specs.Clocks as clocked
use Rattle.net_wires.specs.Clocks.{AreClocks, IsConstant, tied_digits}
use Rattle.net_wires.specs.Links.{links_of, PairsWithin, SourcesWithin}
use Rattle.net_wires.specs.Nets.{Resolves, Solves}
use Rattle.net_wires.specs.Numbers.{nets}
use Rattle.net_wires.specs.Ties.{is_end, IsInside, Leads}
use Rattle.net_wires.proofs.OneClock.{one_clock}
use Rattle.net_wires.proofs.Ready.{length_links, links_in}
use Rattle.net_wires.proofs.Saying.{one_end, Says, says}
use Rattle.net_wires.proofs.Solving as solving
use Rattle.raw_cells.specs.declared.raw.RawCell.{RawCell}
use Rattle.raw_cells.specs.declared.raw.RawPin.{RawPin}
use Rattle.raw_cells.specs.Clocks.{place_bit}
use Rattle.net_gather.specs.declared.gathering.Gathered.{Gathered}
use Rattle.net_gather.specs.Laws.{Agrees, CellsWithin, digit_drives, IsNet, NeverFrom, places_from}
use Rattle.net_checks.specs.Checks.{IsSound}
use Rattle.net_checks.specs.ClockPins.{cell_digits, clock_drives, digits, pin_digits, places_in, root_bits, cell_inverters}
use Rattle.build_valid.proofs.Drives.{constant_up, digit_among, digit_drives_here, StandsIn, stands_left, stands_right}
use Rattle.build_valid.proofs.LinkFronts.{leads_down, leads_up, past_front, same_front}
use Rattle.build_valid.proofs.Quiet.{CellQuiet, PinQuiet}

-- ---- the end of a place, and what its bit says of it

pub record EndOf (t : List Link) (seen : List ℕ) (new : List Bit) (p : ℕ) : Type 0 where
  pub end : Link
  pub leads_to : Leads t (links.To p) end
  pub says_so : Says seen end (place_bit new p)

pub end_of_place : (t : List Link) (new : List Bit) (count : ℕ) (r : Resolves t new count) (p : ℕ) → p < length t → EndOf t (nets r.ends) new p
end_of_place t new count r p h =
    let long = r.long in
    let long_too = r.numbered.long in
    let e = get_or r.ends p links.Zero in
    let at = slice_get-get_or r.ends p links.Zero (omega (arith, h, long)) in
    let is = slice_get-get_or new p bits.Zero (omega (arith, h, long, long_too)) in
    record { end = e; leads_to = r.leads p e at; says_so = says (nets r.ends) e (get_or new p bits.Zero) (r.numbered.each p e (get_or new p bits.Zero) at is) }

by_end : (seen : List ℕ) (e : Link) (b : Bit) → is_end e ≡ true → Says seen e b → (e ≡ links.Zero → ⊥) → (e ≡ links.One → ⊥) → IsNet b
by_end seen links.Zero b h s z o = absurd (z refl)
by_end seen links.One b h s z o = absurd (o refl)
by_end seen (links.End p) b h s z o = (s.0, s.2)
by_end seen (links.To p) b h s z o = absurd cc

-- ---- clocks

never_at : (t : List Link) (ds : List Drive) (roots : List ClockRoot) → AreClocks t ds roots → (p : ℕ) → p < length t → IsConstant t ds p → get_or roots p leads.Unknown ≡ leads.Never
never_at t ds roots c p h is =
    let long = c.long in
    let at = slice_get-get_or roots p leads.Unknown (omega (arith, h, long)) in
    one_clock t ds p (get_or roots p leads.Unknown) leads.Never (c.each p (get_or roots p leads.Unknown) at) is

below_false : (p n : ℕ) → n ≤ p → nat_lt p n ≡ true → ⊥
below_false p n h e = let k : p < n = grind (arith, nat_tests) in omega (arith, h, k)

module _ (n m : ℕ) (roots : List ClockRoot) where
  abbrev NeverAt : ℕ → Type 0
  NeverAt q = n ≤ q → q < m → get_or roots q leads.Unknown ≡ leads.Never

  from_case : (b : Bool) (p : ℕ) (rest : List ℕ) → nat_lt p n ≡ b → ((q : ℕ) → StandsIn (if b then rest else p ∷ rest) q → NeverAt q) → p < m → n ≤ p → get_or roots p leads.Unknown ≡ leads.Never
  from_case true p rest e f h le = absurd (below_false p n le e)
  from_case false p rest e f h le = f p (zero, refl) le h

  rest_case : (b : Bool) (p : ℕ) (rest : List ℕ) → ((q : ℕ) → StandsIn (if b then rest else p ∷ rest) q → NeverAt q) → (q : ℕ) → StandsIn rest q → NeverAt q
  rest_case true p rest f q s = f q s
  rest_case false p rest f q s = f q (suc s.0, s.1)

  never_from : (ss : List Source) → ((q : ℕ) → StandsIn (places_from n ss) q → NeverAt q) → SourcesWithin m ss → NeverFrom n roots ss
  never_from [] f w = tt
  never_from (source.Zero ∷ ss) f w = never_from ss f w.1
  never_from (source.One ∷ ss) f w = never_from ss f w.1
  never_from (source.Loose ∷ ss) f w = never_from ss f w.1
  never_from (source.At p ∷ ss) f w = (from_case (nat_lt p n) p (places_from n ss) refl f w.0, never_from ss (rest_case (nat_lt p n) p (places_from n ss) f) w.1)

  given_case : (given clock drives : Bool) (ss : List Source) → (clock && drives) ≡ false → ((q : ℕ) → StandsIn (if given && not drives then places_from n ss else []) q → NeverAt q) → SourcesWithin m ss
      → clock ≡ true → given ≡ true → NeverFrom n roots ss
  given_case true true false ss quiet f w c g = never_from ss f w
  given_case true true true ss quiet f w c g = absurd cc
  given_case true false drives ss quiet f w c g = absurd cc
  given_case false clock drives ss quiet f w c g = absurd cc

  abbrev PinNever : RawPin → Type 0
  PinNever p = p.clock ≡ true → p.given ≡ true → NeverFrom n roots p.bits

  pins_never : (ps : List RawPin) → All PinQuiet ps → All (λ (p : RawPin). SourcesWithin m p.bits) ps → ((q : ℕ) → StandsIn (flat_map (pin_digits n) ps) q → NeverAt q) → All PinNever ps
  pins_never [] quiet w f = tt
  pins_never (p ∷ ps) quiet w f = (
    given_case p.given p.clock p.drives p.bits quiet.0 (λ q s. f q (stands_left (pin_digits n p) (flat_map (pin_digits n) ps) q s)) w.0,
    pins_never ps quiet.1 w.1 (λ q s. f q (stands_right (pin_digits n p) (flat_map (pin_digits n) ps) q s)),
  )

  cells_never : (cs : List RawCell) → All CellQuiet cs → CellsWithin m cs → ((q : ℕ) → StandsIn (flat_map (cell_digits n) cs) q → NeverAt q) → All (λ (c : RawCell). All PinNever c.pins) cs
  cells_never [] quiet w f = tt
  cells_never (c ∷ cs) quiet w f = (
    pins_never c.pins quiet.0 w.0 (λ q s. f q (stands_left (cell_digits n c) (flat_map (cell_digits n) cs) q s)),
    cells_never cs quiet.1 w.1 (λ q s. f q (stands_right (cell_digits n c) (flat_map (cell_digits n) cs) q s)),
  )

-- ---- all of it

links_to_inside : (n : ℕ) (x : Link) (q : ℕ) → IsInside n x → x ≡ links.To q → q < n
links_to_inside n x q inside e = subst (λ (y : Link). IsInside n y) e inside

pub agrees : (items : List Item) (g : Gathered) (places : List Bit) (count : ℕ) (roots : List ClockRoot) → IsSound items g → PairsWithin g.wire_places g.pairs → All CellQuiet g.cells
    → Resolves (links_of g.places g.pairs) places count → AreClocks (links_of g.places g.pairs) (clock_drives items g) roots → Agrees g places roots
agrees items g places count roots sound near quiet r c =
    let n = g.wire_places in
    let m = g.places in
    let t = links_of m g.pairs in
    let ds = clock_drives items g in
    let le = sound.first in
    let long = length_links m g.pairs in
    let inside : (p : ℕ) → p < n → p < length t = λ p h. omega (arith, h, le, long) in
    let ended : (p : ℕ) (h : p < n) → EndOf t (nets r.ends) places p = λ p h. end_of_place t places count r p (inside p h) in
    let solves : Solves t places = solving.solves t r.ends places count r.long r.leads r.numbered in
    let digit_here : (p : ℕ) → p < m → StandsIn (digits g) p → slice_get ds p ≡ Some drive.Digit = λ p h s. digit_drives_here m (places_in (root_bits items g.cells)) (flat_map cell_inverters g.cells) (digits g) p h s in
    record {
      zero = λ p h l.
          (let e = ended p h in
          let same : e.end ≡ links.Zero = one_end t (links.To p) e.end links.Zero e.leads_to (leads_up n m g.pairs le near p links.Zero h l) in
          subst (λ (y : Link). Says (nets r.ends) y (place_bit places p)) same e.says_so);
      one = λ p h l.
          (let e = ended p h in
          let same : e.end ≡ links.One = one_end t (links.To p) e.end links.One e.leads_to (leads_up n m g.pairs le near p links.One h l) in
          subst (λ (y : Link). Says (nets r.ends) y (place_bit places p)) same e.says_so);
      net = λ p h not_zero not_one.
          (let e = ended p h in
          by_end (nets r.ends) e.end (place_bit places p) e.leads_to.2 e.says_so
          (λ is. not_zero (leads_down n m g.pairs le near p links.Zero h (subst (Leads t (links.To p)) is e.leads_to)))
          (λ is. not_one (leads_down n m g.pairs le near p links.One h (subst (Leads t (links.To p)) is e.leads_to))));
      unwired = λ p past h. (let k = solves.net p (past_front n m g.pairs p near past h) in (k.0, get_or_from_slice_get places p (bits.Net k.0) bits.Zero k.1));
      never = λ p h is.
          never_at t ds roots c p (inside p h)
          (constant_up n t (links_of n g.pairs) (digit_drives n (tied_digits g.pairs)) ds (same_front n m g.pairs le near)
          (λ i q k at. links_to_inside n (links.To q) q (links_in n g.pairs near i (links.To q) at) refl)
          (λ q k at. digit_here q (omega (arith, k, le)) (stands_left (tied_digits g.pairs) (flat_map (cell_digits n) g.cells) q (digit_among n (tied_digits g.pairs) q at))) p h is);
      digits = cells_never n m roots g.cells quiet sound.cells
          (λ q s past h.
          never_at t ds roots c q (omega (arith, h, long))
          (clocked.digit q q (past_front n m g.pairs q near past h) (digit_here q h (stands_right (tied_digits g.pairs) (flat_map (cell_digits n) g.cells) q s))));
    }
