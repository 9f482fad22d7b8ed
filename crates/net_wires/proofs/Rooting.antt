-- The table of places with their ways leads where connects and inverters lead.
use Rattle.std.proofs.Common.{◌≡◌, ℕ, zero, suc, ◌+◌, ◌*◌, ◌/◌, ◌%◌, ◌^◌, ◌<◌, ◌≤◌, Bool, true, false, not, cond, List, map, length, get_or, Some, refl, sym, ap, subst, ◌∙◌, arith}
use Rattle.std.specs.Prelude.{slice_get, ◌==◌}
use Rattle.std.specs.List.{range_with_len}
use Rattle.std.proofs.lemmas.Bool.{eqb-true}
use Rattle.std.proofs.lemmas.List.FromFn.{length-map-range_with_len}
use Rattle.std.proofs.lemmas.Option.{same_Some, slice_get_within, slice_get-get_or, get_or_from_slice_get}
use Rattle.net_wires.specs.declared.clock.ClockRoot.{ClockRoot}
use Rattle.net_wires.specs.declared.clock.ClockRoot.TheVariants as clock
use Rattle.net_wires.specs.declared.clock.Drive.{Drive}
use Rattle.net_wires.specs.declared.clock.Drive.TheVariants as drive
use Rattle.net_wires.specs.declared.link.Link.{Link}
use Rattle.net_wires.specs.declared.link.Link.TheVariants as links
use Rattle.net_wires.specs.declared.source.Source.{Source}
use Rattle.net_wires.specs.declared.source.Source.TheVariants as source
use Rattle.net_wires.specs.Clocks.{IsConstant, LeadsToRoot, IsClock, AreClocks}
use Rattle.net_wires.specs.Clocks as clocks
use Rattle.net_wires.specs.Doubling.{Tied, Within}
use Rattle.net_wires.specs.Ties.{is_end, onward, walk, AllInside, IsInside, Leads, OnRing}
use Rattle.net_wires.specs.Ways.{constant_at, driven, DrivesWithin, hop, inverted, root_at, through, turned, ways}
use Rattle.net_wires.proofs.Driven.{range_at}
use Rattle.net_wires.proofs.Marking.{on_ring}
use Rattle.net_wires.proofs.Saying.{one_end}
use Rattle.net_wires.proofs.Walks.{at_power, length_power, rings_last, walk_end, walk_more}

-- what stands at the end, flipped where it is
abbrev pub flip_by : Bool → Bool → Bool
flip_by true x = not x
flip_by false x = x

turned_flag : (b : Bool) → ((cond {A = ℕ} b 2 1) == 1) ≡ not b
turned_flag true = refl
turned_flag false = refl

turned_odd : (w : ℕ) → (turned w == 1) ≡ not (w == 1)
turned_odd w = turned_flag (w == 1)

small_flag : (b : Bool) → cond {A = ℕ} b 2 1 < 3
small_flag true = omega arith
small_flag false = omega arith

turned_small : (w : ℕ) → turned w < 3
turned_small w = small_flag (w == 1)

some_flag : (b : Bool) → cond {A = ℕ} b 2 1 ≡ 0 → ⊥
some_flag true h = omega (arith, h)
some_flag false h = omega (arith, h)

turned_some : (w : ℕ) → turned w ≡ 0 → ⊥
turned_some w h = some_flag (w == 1) h

flip_not : (b x : Bool) → flip_by b (not x) ≡ flip_by (not b) x
flip_not true true = refl
flip_not true false = refl
flip_not false x = refl

flip_zero : (b : Bool) → flip_by b (0 == 1) ≡ b
flip_zero true = refl
flip_zero false = refl

place_of : (p w : ℕ) → w < 3 → (3 * p + w) / 3 ≡ p
place_of p w h = omega (arith, h)

way_of : (p w : ℕ) → w < 3 → (3 * p + w) % 3 ≡ w
way_of p w h = omega (arith, h)

module _ (t : List Link) (ds : List Drive) (long : length ds ≡ length t) (inside : AllInside (length t) t) (within : DrivesWithin (length t) ds) where
  hop_at : (p w : ℕ) (x : Link) (d : Drive) → w < 3 → slice_get t p ≡ Some x → slice_get ds p ≡ Some d → hop t ds (3 * p + w) ≡ through x d (3 * p + w) w
  hop_at p w x d small at is =
      ap (λ k. through (get_or t k links.Zero) (get_or ds k drive.Open) (3 * p + w) ((3 * p + w) % 3)) (place_of p w small)
      ∙ ap (λ k. through (get_or t p links.Zero) (get_or ds p drive.Open) (3 * p + w) k) (way_of p w small)
      ∙ ap (λ (y : Link). through y (get_or ds p drive.Open) (3 * p + w) w) (get_or_from_slice_get t p x links.Zero at)
      ∙ ap (λ (y : Drive). through x y (3 * p + w) w) (get_or_from_slice_get ds p d drive.Open is)

  go : (p w : ℕ) (x : Link) (d : Drive) → w < 3 → slice_get t p ≡ Some x → slice_get ds p ≡ Some d → onward (ways t ds) (links.To (3 * p + w)) ≡ through x d (3 * p + w) w
  go p w x d small at is =
      let h : p < length t = slice_get_within t p x at in
      get_or_from_slice_get (ways t ds) (3 * p + w) (hop t ds (3 * p + w)) (links.To (3 * p + w)) (range_at (hop t ds) (3 * length t) (3 * p + w) (omega (arith, h, small))) ∙ hop_at p w x d small at is

  drive_at : (p : ℕ) → p < length t → (d : Drive) × (slice_get ds p ≡ Some d)
  drive_at p h = (get_or ds p drive.Open, slice_get-get_or ds p drive.Open (omega (arith, h, long)))

  step_leads : (k : ℕ) (y e : Link) → onward (ways t ds) (links.To k) ≡ y → Leads (ways t ds) y e → Leads (ways t ds) (links.To k) e
  step_leads k y e h l = (suc l.0, ap (walk (ways t ds) l.0) h ∙ l.1, l.2)

  -- ---- what connects and inverters lead to, the table leads to

  record Lands (p w r : ℕ) (flipped : Bool) : Type 0 where
    way : ℕ
    small : way < 3
    odd : (way == 1) ≡ flip_by flipped (w == 1)
    leads : Leads (ways t ds) (links.To (3 * p + w)) (links.End (3 * r + way))

  root_leads : (p r : ℕ) (flipped : Bool) → LeadsToRoot t ds p r flipped → (w : ℕ) → w < 3 → Lands p w r flipped
  root_leads _ _ _ (clocks.here p e at is) w small = record { way = w; small = small; odd = refl; leads = step_leads (3 * p + w) (links.End (3 * p + w)) (links.End (3 * p + w)) (go p w (links.End e) drive.Root small at is) (0, refl, refl) }
  root_leads _ _ _ (LeadsToRoot.connect p q r b at rest) w small =
      let d = drive_at p (slice_get_within t p (links.To q) at) in
      let l = root_leads q r b rest w small in
      record { way = l.way; small = l.small; odd = l.odd; leads = step_leads (3 * p + w) (links.To (3 * q + w)) (links.End (3 * r + l.way)) (go p w (links.To q) d.0 small at d.1) l.leads }
  root_leads _ _ _ (clocks.invert p e q r b at is rest) w small =
      let l = root_leads q r b rest (turned w) (turned_small w) in
      record {
        way = l.way;
        small = l.small;
        odd = l.odd ∙ ap (flip_by b) (turned_odd w) ∙ flip_not b (w == 1);
        leads = step_leads (3 * p + w) (links.To (3 * q + turned w)) (links.End (3 * r + l.way)) (go p w (links.End e) (drive.Inverts (source.At q)) small at is) l.leads;
      }

  constant_leads : (p : ℕ) → IsConstant t ds p → Leads (ways t ds) (links.To (3 * p + 0)) links.One
  constant_leads _ (clocks.zero p at) = let d = drive_at p (slice_get_within t p links.Zero at) in step_leads (3 * p + 0) links.One links.One (go p 0 links.Zero d.0 (omega arith) at d.1) (0, refl, refl)
  constant_leads _ (clocks.one p at) = let d = drive_at p (slice_get_within t p links.One at) in step_leads (3 * p + 0) links.One links.One (go p 0 links.One d.0 (omega arith) at d.1) (0, refl, refl)
  constant_leads _ (clocks.digit p e at is) = step_leads (3 * p + 0) links.One links.One (go p 0 (links.End e) drive.Digit (omega arith) at is) (0, refl, refl)
  constant_leads _ (IsConstant.connect p q at rest) =
      let d = drive_at p (slice_get_within t p (links.To q) at) in
      step_leads (3 * p + 0) (links.To (3 * q + 0)) links.One (go p 0 (links.To q) d.0 (omega arith) at d.1) (constant_leads q rest)

  -- ---- and where the table leads, they lead

  record Found (p w m : ℕ) : Type 0 where
    root : ℕ
    way : ℕ
    flipped : Bool
    is : m ≡ 3 * root + way
    small : way < 3
    odd : (way == 1) ≡ flip_by flipped (w == 1)
    leads : LeadsToRoot t ds p root flipped

  abbrev Means : ℕ → ℕ → Link → Type 0
  Means p w links.Zero = Unit {0}
  Means p w links.One = (w ≡ 0) × IsConstant t ds p
  Means p w (links.End m) = Found p w m
  Means p w (links.To m) = Unit {0}

  lift_connect : (p q w : ℕ) (e : Link) → slice_get t p ≡ Some (links.To q) → Means q w e → Means p w e
  lift_connect p q w links.Zero at m = tt
  lift_connect p q w links.One at m = (m.0, IsConstant.connect p q at m.1)
  lift_connect p q w (links.End k) at m = record { root = m.root; way = m.way; flipped = m.flipped; is = m.is; small = m.small; odd = m.odd; leads = LeadsToRoot.connect p q m.root m.flipped at m.leads }
  lift_connect p q w (links.To k) at m = tt

  lift_invert : (p o q w : ℕ) (e : Link) → slice_get t p ≡ Some (links.End o) → slice_get ds p ≡ Some (drive.Inverts (source.At q)) → Means q (turned w) e → Means p w e
  lift_invert p o q w links.Zero at is m = tt
  lift_invert p o q w links.One at is m = absurd (turned_some w m.0)
  lift_invert p o q w (links.End k) at is m = record {
    root = m.root;
    way = m.way;
    flipped = not m.flipped;
    is = m.is;
    small = m.small;
    odd = m.odd ∙ ap (flip_by m.flipped) (turned_odd w) ∙ flip_not m.flipped (w == 1);
    leads = clocks.invert p o q m.root m.flipped at is m.leads;
  }
  lift_invert p o q w (links.To k) at is m = tt

  by_flag : (b : Bool) (k p w : ℕ) (e : Link) → (w == 0) ≡ b → IsConstant t ds p → walk (ways t ds) k (cond b links.One links.Zero) ≡ e → Means p w e
  by_flag true k p w e is con to = subst (Means p w) (sym (walk_end (ways t ds) k links.One refl) ∙ to) (eqb-true w 0 is, con)
  by_flag false k p w e is con to = subst (Means p w) (sym (walk_end (ways t ds) k links.Zero refl) ∙ to) tt

  at_constant : (k p w : ℕ) (e : Link) → IsConstant t ds p → walk (ways t ds) k (constant_at w) ≡ e → Means p w e
  at_constant k p w e con to = by_flag (w == 0) k p w e refl con to

  abbrev Rest : ℕ → Link → Type 0
  Rest k e = (q v : ℕ) → v < 3 → q < length t → walk (ways t ds) k (links.To (3 * q + v)) ≡ e → Means q v e

  dead : (k p w : ℕ) (e : Link) → walk (ways t ds) k links.Zero ≡ e → Means p w e
  dead k p w e to = subst (Means p w) (sym (walk_end (ways t ds) k links.Zero refl) ∙ to) tt

  by_inverter : (k p w o : ℕ) (e : Link) (s : Source) → slice_get t p ≡ Some (links.End o) → slice_get ds p ≡ Some (drive.Inverts s) → walk (ways t ds) k (inverted s w) ≡ e → Rest k e → Means p w e
  by_inverter k p w o e source.Zero at is to rest = dead k p w e to
  by_inverter k p w o e source.One at is to rest = dead k p w e to
  by_inverter k p w o e source.Loose at is to rest = dead k p w e to
  by_inverter k p w o e (source.At q) at is to rest = lift_invert p o q w e at is (rest q (turned w) (turned_small w) (within p (drive.Inverts (source.At q)) is) to)

  by_drive : (k p w o : ℕ) (e : Link) (d : Drive) → w < 3 → slice_get t p ≡ Some (links.End o) → slice_get ds p ≡ Some d → walk (ways t ds) k (driven d (3 * p + w) w) ≡ e → Rest k e → Means p w e
  by_drive k p w o e drive.Open small at is to rest = dead k p w e to
  by_drive k p w o e drive.Digit small at is to rest = at_constant k p w e (clocks.digit p o at is) to
  by_drive k p w o e drive.Root small at is to rest =
      subst (Means p w) (sym (walk_end (ways t ds) k (links.End (3 * p + w)) refl) ∙ to) (record { root = p; way = w; flipped = false; is = refl; small = small; odd = refl; leads = clocks.here p o at is })
  by_drive k p w o e (drive.Inverts s) small at is to rest = by_inverter k p w o e s at is to rest

  by_link : (k p w : ℕ) (e x : Link) (d : Drive) → w < 3 → slice_get t p ≡ Some x → slice_get ds p ≡ Some d → walk (ways t ds) k (through x d (3 * p + w) w) ≡ e → Rest k e → Means p w e
  by_link k p w e links.Zero d small at is to rest = at_constant k p w e (clocks.zero p at) to
  by_link k p w e links.One d small at is to rest = at_constant k p w e (clocks.one p at) to
  by_link k p w e (links.End o) d small at is to rest = by_drive k p w o e d small at is to rest
  by_link k p w e (links.To q) d small at is to rest = lift_connect p q w e at (rest q w small (inside p (links.To q) at) to)

  means : (k p w : ℕ) (e : Link) → w < 3 → p < length t → walk (ways t ds) k (links.To (3 * p + w)) ≡ e → is_end e ≡ true → Means p w e
  means zero p w e small h to end = let no_end : is_end (links.To (3 * p + w)) ≡ true = subst (λ (y : Link). is_end y ≡ true) (sym to) end in cc
  means (suc k) p w e small h to end =
      let x = get_or t p links.Zero in
      let at : slice_get t p ≡ Some x = slice_get-get_or t p links.Zero h in
      let d = drive_at p h in
      by_link k p w e x d.0 small at d.1 (ap (walk (ways t ds) k) (sym (go p w x d.0 small at d.1)) ∙ to) (λ q v less there on. means k q v e less there on end)

  -- ---- clocks

  -- a place that leads onto a ring has no end
  no_end : (k p j : ℕ) → walk (ways t ds) k (links.To p) ≡ links.To j → OnRing (ways t ds) j → (e : Link) → Leads (ways t ds) (links.To p) e → ⊥
  no_end k p j to ring e l =
      let swap : k + l.0 ≡ l.0 + k = omega arith in
      let on : walk (ways t ds) l.0 (links.To j) ≡ e =
      ap (walk (ways t ds) l.0) (sym to) ∙ sym (walk_more (ways t ds) k l.0 (links.To p)) ∙ ap (λ n. walk (ways t ds) n (links.To p)) swap
      ∙ walk_more (ways t ds) l.0 k (links.To p) ∙ ap (walk (ways t ds) k) l.1 ∙ walk_end (ways t ds) k e l.2 in
      rings_last (ways t ds) j ring e (l.0, on, l.2)

  unknown : (p : ℕ) → ((e : Link) → is_end e ≡ true → (e ≡ links.Zero → ⊥) → Leads (ways t ds) (links.To (3 * p + 0)) e → ⊥) → IsClock t ds p clock.Unknown
  unknown p none = (
    λ con. none links.One refl (λ e. cc) (constant_leads p con),
    λ r b l. let a = root_leads p r b l 0 (omega arith) in none (links.End (3 * r + a.way)) refl (λ e. cc) a.leads,
  )

  clock_at : (k p : ℕ) (e : Link) → p < length t → walk (ways t ds) k (links.To (3 * p + 0)) ≡ e → ((j : ℕ) → e ≡ links.To j → OnRing (ways t ds) j) → IsClock t ds p (root_at e)
  clock_at k p links.Zero h to rings = unknown p (λ e end some l. some (one_end (ways t ds) (links.To (3 * p + 0)) e links.Zero l (k, to, refl)))
  clock_at k p links.One h to rings = (means k p 0 links.One (omega arith) h to refl).1
  clock_at k p (links.End m) h to rings =
      let f = means k p 0 (links.End m) (omega arith) h to refl in
      let place : m / 3 ≡ f.root = ap (λ n. n / 3) f.is ∙ place_of f.root f.way f.small in
      let way : m % 3 ≡ f.way = ap (λ n. n % 3) f.is ∙ way_of f.root f.way f.small in
      let odd : (m % 3 == 1) ≡ f.flipped = ap (λ n. n == 1) way ∙ f.odd ∙ flip_zero f.flipped in
      subst (λ n. LeadsToRoot t ds p n (m % 3 == 1)) (sym place) (subst (LeadsToRoot t ds p f.root) (sym odd) f.leads)
  clock_at k p (links.To j) h to rings = unknown p (λ e end some l. no_end k (3 * p + 0) j to (rings j refl) e l)

pub are_clocks : (t : List Link) (ds : List Drive) (ends : List Link) (found : List ClockRoot) → length t < 2 ^ 30 → length ds ≡ length t → AllInside (length t) t → DrivesWithin (length t) ds → Within (ways t ds) → Tied (ways t ds) ends
    → found ≡ map (λ p. root_at (get_or ends (3 * p) links.Zero)) (range_with_len 0 (length t)) → AreClocks t ds found
are_clocks t ds ends found room long inside within closed d is =
    let table : length (ways t ds) ≡ 3 * length t = length-map-range_with_len (hop t ds) 0 (3 * length t) in
    let le : length ends ≡ 3 * length t = ap length d.is ∙ length_power (ways t ds) d.rounds ∙ table in
    let small : length (ways t ds) < 2 ^ 32 = omega (arith, table, room) in
    record {
      long = ap length is ∙ length-map-range_with_len (λ p. root_at (get_or ends (3 * p) links.Zero)) 0 (length t);
      each = λ p c at.
          let h : p < length t = omega (arith, slice_get_within found p c at, ap length is, length-map-range_with_len (λ k. root_at (get_or ends (3 * k) links.Zero)) 0 (length t)) in
          let e : Link = get_or ends (3 * p) links.Zero in
          let at_e : slice_get ends (3 * p) ≡ Some e = slice_get-get_or ends (3 * p) links.Zero (omega (arith, h, le)) in
          let to : walk (ways t ds) (2 ^ d.rounds) (links.To (3 * p)) ≡ e = at_power (ways t ds) d.rounds (3 * p) e (ap (λ (xs : List Link). slice_get xs (3 * p)) (sym d.is) ∙ at_e) in
          let z : 3 * p ≡ 3 * p + 0 = omega arith in
          let same : root_at e ≡ c = same_Some (root_at e) c (sym (range_at (λ k. root_at (get_or ends (3 * k) links.Zero)) (length t) p h) ∙ ap (λ (xs : List ClockRoot). slice_get xs p) (sym is) ∙ at) in
          subst (IsClock t ds p) same
          (clock_at t ds long inside within (2 ^ d.rounds) p e h (ap (λ n. walk (ways t ds) (2 ^ d.rounds) (links.To n)) (sym z) ∙ to)
          (λ j q. on_ring (ways t ds) ends d (3 * p) j closed small (at_e ∙ ap Some q)));
    }

-- ---- the table names nodes that are there

abbrev number : Link → ℕ
number (links.To j) = j
number x = 0

no_constant : (b : Bool) (j : ℕ) → cond b links.One links.Zero ≡ links.To j → ⊥
no_constant true j e = cc
no_constant false j e = cc

through_in : (t : List Link) (ds : List Drive) (m w : ℕ) (x : Link) (d : Drive) (node : ℕ) → w < 3 → 3 * m ≤ length (ways t ds) → (j : ℕ) → IsInside m x → ((q : ℕ) → d ≡ drive.Inverts (source.At q) → q < m) → through x d node w ≡ links.To j → j < length (ways t ds)
through_in t ds m w links.Zero d node small le j h g e = absurd (no_constant (w == 0) j e)
through_in t ds m w links.One d node small le j h g e = absurd (no_constant (w == 0) j e)
through_in t ds m w (links.To q) d node small le j h g e = let k = ap number e in omega (arith, k, h, small, le)
through_in t ds m w (links.End o) drive.Open node small le j h g e = cc
through_in t ds m w (links.End o) drive.Digit node small le j h g e = absurd (no_constant (w == 0) j e)
through_in t ds m w (links.End o) drive.Root node small le j h g e = cc
through_in t ds m w (links.End o) (drive.Inverts source.Zero) node small le j h g e = cc
through_in t ds m w (links.End o) (drive.Inverts source.One) node small le j h g e = cc
through_in t ds m w (links.End o) (drive.Inverts source.Loose) node small le j h g e = cc
through_in t ds m w (links.End o) (drive.Inverts (source.At q)) node small le j h g e = let k = ap number e in let there = g q refl in omega (arith, k, there, turned_small w, le)

pub ways_closed : (t : List Link) (ds : List Drive) → length ds ≡ length t → AllInside (length t) t → DrivesWithin (length t) ds → Within (ways t ds)
ways_closed t ds long inside within i j at =
    let table : length (ways t ds) ≡ 3 * length t = length-map-range_with_len (hop t ds) 0 (3 * length t) in
    let h : i < 3 * length t = omega (arith, slice_get_within (ways t ds) i (links.To j) at, table) in
    let e : hop t ds i ≡ links.To j = same_Some (hop t ds i) (links.To j) (sym (range_at (hop t ds) (3 * length t) i h) ∙ at) in
    let p : i / 3 < length t = omega (arith, h) in
    through_in t ds (length t) (i % 3) (get_or t (i / 3) links.Zero) (get_or ds (i / 3) drive.Open) i (omega arith) (omega (arith, table)) j
    (inside (i / 3) (get_or t (i / 3) links.Zero) (slice_get-get_or t (i / 3) links.Zero p))
    (λ q is. within (i / 3) (drive.Inverts (source.At q)) (slice_get-get_or ds (i / 3) drive.Open (omega (arith, p, long)) ∙ ap Some is))
    e
