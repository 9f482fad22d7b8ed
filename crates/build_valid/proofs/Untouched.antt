-- Places that no connect touches and no cell inverts: their nets stand at no other place, and no clock leads to them.
use Rattle.std.proofs.Common.{◌≡◌, inl, inr, ℕ, zero, suc, ◌<◌, Bool, true, false, List, [], ◌∷◌, length, get_or, Some, refl, sym, ap, ◌∙◌, subst, arith}
use Rattle.std.specs.Prelude.{slice_get}
use Rattle.std.proofs.lemmas.Option.{get_or_from_slice_get, same_Some, slice_get-get_or, slice_get_within}
use Rattle.rtlil_text.specs.Grammar.{All}
use Rattle.net_core.specs.declared.bits.Bit.{Bit}
use Rattle.net_core.specs.declared.bits.Bit.TheVariants as bits
use Rattle.net_wires.specs.declared.clock.Drive.{Drive}
use Rattle.net_wires.specs.declared.clock.Drive.TheVariants as drive
use Rattle.net_wires.specs.declared.link.Link.{Link}
use Rattle.net_wires.specs.declared.link.Link.TheVariants as links
use Rattle.net_wires.specs.declared.source.Pair.{Pair}
use Rattle.net_wires.specs.declared.source.Source.{Source}
use Rattle.net_wires.specs.declared.source.Source.TheVariants as source
use Rattle.net_wires.specs.Clocks as clocked
use Rattle.net_wires.specs.Clocks.{LeadsToRoot}
use Rattle.net_wires.specs.Doubling.{Within}
use Rattle.net_wires.specs.Links.{link_of, links_of, own, PairsWithin, tie_all, tie_left, tie_pair}
use Rattle.net_wires.specs.Nets.{Resolves}
use Rattle.net_wires.specs.Numbers.{find, nets}
use Rattle.net_wires.specs.Ties.{is_end, Leads, walk}
use Rattle.net_wires.proofs.Driven.{range_at}
use Rattle.net_wires.proofs.Places.{set_other}
use Rattle.net_wires.proofs.Ready.{length_links, links_own, links_within, set_is}
use Rattle.net_wires.proofs.Saying.{found_at, number_of, one_end, Says}
use Rattle.net_wires.proofs.Walks.{walk_end}
use Rattle.raw_cells.specs.Clocks.{place_bit}
use Rattle.build_valid.proofs.Agreeing.{end_of_place}

-- these places are so
module _ (so : ℕ → Bool) where
  -- a bit that is none of the places
  abbrev pub IsOff : Source → Type 0
  IsOff (source.At p) = so p ≡ false
  IsOff source.Zero = Unit {0}
  IsOff source.One = Unit {0}
  IsOff source.Loose = Unit {0}

  abbrev pub PairsOff : List Pair → Type 0
  PairsOff ps = All (λ (p : Pair). IsOff p.left × IsOff p.right) ps

  -- what a link leads to is none of them
  abbrev LinkOff : Link → Type 0
  LinkOff (links.To q) = so q ≡ false
  LinkOff links.Zero = Unit {0}
  LinkOff links.One = Unit {0}
  LinkOff (links.End q) = Unit {0}

  abbrev LinksOff : List Link → Type 0
  LinksOff t = (i : ℕ) (x : Link) → slice_get t i ≡ Some x → LinkOff x

  own_case : (x : Link) (q : ℕ) → links.End q ≡ x → LinkOff x
  own_case links.Zero q e = tt
  own_case links.One q e = tt
  own_case (links.End p) q e = tt
  own_case (links.To p) q e = absurd cc

  own_off : (n : ℕ) → LinksOff (own n)
  own_off n i x at =
      let h : i < n = (let within = slice_get_within (own n) i x at in let long = length_links n [] in omega (arith, within, long)) in
      own_case x i (same_Some (links.End i) x (sym (range_at links.End n i h) ∙ at))

  link_off : (l : ℕ) (r : Source) → IsOff r → LinkOff (link_of l r)
  link_off l source.Zero h = tt
  link_off l source.One h = tt
  link_off l source.Loose h = tt
  link_off l (source.At p) h = h

  tie_off : (t : List Link) (l r : Source) → IsOff r → LinksOff t → LinksOff (tie_left t l r)
  tie_off t source.Zero r h all = all
  tie_off t source.One r h all = all
  tie_off t source.Loose r h all = all
  tie_off t (source.At l) r h all = λ i x at. elim (set_is t l i x (link_of l r) at) [ inl e ↦ subst LinkOff e (link_off l r h) | inr old ↦ all i x old ]

  ties_off : (t : List Link) (ps : List Pair) → PairsOff ps → LinksOff t → LinksOff (tie_all t ps)
  ties_off t [] h all = all
  ties_off t (p ∷ ps) h all = ties_off (tie_pair t p) ps h.1 (tie_off t p.left p.right h.0.1 all)

  pub links_off : (n : ℕ) (ps : List Pair) → PairsOff ps → (i q : ℕ) → slice_get (links_of n ps) i ≡ Some (links.To q) → so q ≡ false
  links_off n ps h i q at = ties_off (own n) ps h (own_off n) i (links.To q) at

  -- they are their own ends
  tie_kept : (t : List Link) (p : ℕ) (l r : Source) → so p ≡ true → IsOff l → slice_get (tie_left t l r) p ≡ slice_get t p
  tie_kept t p source.Zero r on off = refl
  tie_kept t p source.One r on off = refl
  tie_kept t p source.Loose r on off = refl
  tie_kept t p (source.At l) r on off = set_other t l p (link_of l r) (λ e. (let x : true ≡ false = sym on ∙ ap so e ∙ off in cc))

  ties_kept : (t : List Link) (p : ℕ) (ps : List Pair) → so p ≡ true → PairsOff ps → slice_get (tie_all t ps) p ≡ slice_get t p
  ties_kept t p [] on h = refl
  ties_kept t p (q ∷ qs) on h = ties_kept (tie_pair t q) p qs on h.1 ∙ tie_kept t p q.left q.right on h.0.0

  pub own_end : (n : ℕ) (ps : List Pair) (p : ℕ) → so p ≡ true → p < n → PairsOff ps → slice_get (links_of n ps) p ≡ Some (links.End p)
  own_end n ps p on h off = ties_kept (own n) p ps on off ∙ range_at links.End n p h

  -- ---- nothing leads to them

  abbrev end_number : Link → ℕ
  end_number (links.End p) = p
  end_number x = 0

  no_way : (p q : ℕ) → so p ≡ true → so q ≡ false → q ≡ p → ⊥
  no_way p q on off e = let x : true ≡ false = sym on ∙ ap so (sym e) ∙ off in cc

  by_link : (t : List Link) (p q k : ℕ) (x : Link) → so p ≡ true → ((l e : ℕ) → slice_get t l ≡ Some (links.End e) → e ≡ l) → ((i r : ℕ) → slice_get t i ≡ Some (links.To r) → so r ≡ false)
      → slice_get t q ≡ Some x → walk t k x ≡ links.End p → ((r : ℕ) → r < length t → walk t k (links.To r) ≡ links.End p → r ≡ p) → Within t → q ≡ p
  by_link t p q k links.Zero on owned off at w rec inside = let e : links.Zero ≡ links.End p = sym (walk_end t k links.Zero refl) ∙ w in absurd cc
  by_link t p q k links.One on owned off at w rec inside = let e : links.One ≡ links.End p = sym (walk_end t k links.One refl) ∙ w in absurd cc
  by_link t p q k (links.End r) on owned off at w rec inside =
      let e : links.End r ≡ links.End p = sym (walk_end t k (links.End r) refl) ∙ w in
      sym (owned q r at) ∙ ap end_number e
  by_link t p q k (links.To r) on owned off at w rec inside = absurd (no_way p r on (off q r at) (rec r (inside q r at) w))

  walks_to : (t : List Link) (p : ℕ) → so p ≡ true → ((l e : ℕ) → slice_get t l ≡ Some (links.End e) → e ≡ l) → ((i r : ℕ) → slice_get t i ≡ Some (links.To r) → so r ≡ false) → Within t
      → (k q : ℕ) → q < length t → walk t k (links.To q) ≡ links.End p → q ≡ p
  walks_to t p on owned off inside zero q h w = absurd cc
  walks_to t p on owned off inside (suc k) q h w =
      by_link t p q k (get_or t q (links.To q)) on owned off (slice_get-get_or t q (links.To q) h) w (λ r g. walks_to t p on owned off inside k r g) inside

  -- an end that shows a net
  shows_end : (seen : List ℕ) (e : Link) (b : Bit) (n : ℕ) → Says seen e b → b ≡ bits.Net n → is_end e ≡ true → (x : ℕ) × (e ≡ links.End x) × (find seen x ≡ Some n)
  shows_end seen links.Zero b n s is end = (let x : bits.Zero ≡ bits.Net n = sym s ∙ is in absurd cc)
  shows_end seen links.One b n s is end = (let x : bits.One ≡ bits.Net n = sym s ∙ is in absurd cc)
  shows_end seen (links.End x) b n s is end = (x, refl, s.1 ∙ ap (λ k. Some k) (ap number_of (sym s.2 ∙ is)))
  shows_end seen (links.To x) b n s is end = absurd cc

  -- Where one of them has a net, no other place has it.
  pub alone : (m : ℕ) (ps : List Pair) (new : List Bit) (count : ℕ) → PairsWithin m ps → PairsOff ps → Resolves (links_of m ps) new count → (p q n : ℕ) → so p ≡ true → p < m → q < m → place_bit new p ≡ bits.Net n → place_bit new q ≡ bits.Net n → q ≡ p
  alone m ps new count w off r p q n on hp hq bp bq =
      let t = links_of m ps in
      let long = length_links m ps in
      let ep = end_of_place t new count r p (omega (arith, hp, long)) in
      let eq = end_of_place t new count r q (omega (arith, hq, long)) in
      let xp = shows_end (nets r.ends) ep.end (place_bit new p) n ep.says_so bp ep.leads_to.2 in
      let xq = shows_end (nets r.ends) eq.end (place_bit new q) n eq.says_so bq eq.leads_to.2 in
      let same : xq.0 ≡ xp.0 = same_Some xq.0 xp.0 (sym (found_at (nets r.ends) xq.0 n xq.2) ∙ found_at (nets r.ends) xp.0 n xp.2) in
      let here : Leads t (links.To p) (links.End p) = (1, get_or_from_slice_get t p (links.End p) (links.To p) (own_end m ps p on hp off), refl) in
      let end_p : links.End xp.0 ≡ links.End p = sym xp.1 ∙ one_end t (links.To p) ep.end (links.End p) ep.leads_to here in
      walks_to t p on (links_own m ps) (links_off m ps off) (links_within m ps w) eq.leads_to.0 q (omega (arith, hq, long)) (eq.leads_to.1 ∙ xq.1 ∙ ap links.End same ∙ end_p)

  -- no clock leads to them but their own
  pub leads_alone : (t : List Link) (ds : List Drive) → ((i q : ℕ) → slice_get t i ≡ Some (links.To q) → so q ≡ false) → ((i q : ℕ) → slice_get ds i ≡ Some (drive.Inverts (source.At q)) → so q ≡ false)
      → (q r : ℕ) (flipped : Bool) → so r ≡ true → LeadsToRoot t ds q r flipped → q ≡ r
  leads_alone t ds off none _ _ _ on (clocked.here p e at is) = refl
  leads_alone t ds off none _ r f on (LeadsToRoot.connect p q _ _ at rest) = absurd (no_way r q on (off p q at) (leads_alone t ds off none q r f on rest))
  leads_alone t ds off none _ r _ on (clocked.invert p e q _ f at is rest) = absurd (no_way r q on (none p q is) (leads_alone t ds off none q r f on rest))
