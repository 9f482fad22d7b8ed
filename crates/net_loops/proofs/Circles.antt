-- What walks tell about rings.
use Rattle.std.proofs.Common.{◌≡◌, ℕ, zero, suc, ◌+◌, ◌-◌, ◌<◌, ◌≤◌, ⊎_elim, List, [], ◌∷◌, length, Some, refl, sym, ap, ◌∙◌, subst, arith}
use Rattle.std.specs.Prelude.{slice_get}
use Rattle.std.proofs.lemmas.Option.{same_Some}
use Rattle.std.proofs.lemmas.Bool.{cases_eq}
use Rattle.net_core.proofs.Basics.{get_below, get_within}
use Rattle.net_core.specs.Search.{Leads, IsRing}
use Rattle.net_loops.proofs.Walking.{walked}
use Rattle.net_loops.specs.Graphs.{IsOnRing, IsFirstRing}
use Rattle.net_loops.specs.Walks.{CameTo, Walking, Met, BeginsAs}

-- a node that leads only into a closed set in which it is not lies on no ring
module _ (graph : List (List ℕ)) (m : ℕ) (P : ℕ → Type 0) (closed : (i j : ℕ) → P i → Leads graph i j → P j) (starts : (j : ℕ) → Leads graph m j → P j)
    (ring : List ℕ) (r : IsRing graph ring) (a : ℕ) (at : slice_get ring a ≡ Some m) where
  after : (b i : ℕ) → slice_get ring (suc (a + b)) ≡ Some i → P i
  after zero i h = let e : suc (a + 0) ≡ suc a = omega arith in starts i (r.next a m i at (ap (slice_get ring) (sym e) ∙ h))
  after (suc b) i h =
      let e : suc (a + suc b) ≡ suc (suc (a + b)) = omega arith in
      let h' : slice_get ring (suc (suc (a + b))) ≡ Some i = ap (slice_get ring) (sym e) ∙ h in
      let low = get_below ring (suc (suc (a + b))) i h' in
      let before = get_within ring (suc (a + b)) (omega (arith, low)) in
      closed before.0 i (after b before.0 before.1) (r.next (suc (a + b)) before.0 i before.1 h')

  first : (i : ℕ) → slice_get ring 0 ≡ Some i → P i
  first i h = ⊎_elim
      (λ e. starts i (r.round a m i e at h))
      (λ e. let low = get_below ring a m at in
      let long : suc (suc a) ≤ length ring = omega (arith, low, e) in
      let n = length ring in
      let b = n - suc (suc a) in
      let last = get_within ring (suc (a + b)) (omega (arith, long)) in
      closed last.0 i (after b last.0 last.1) (r.round (suc (a + b)) last.0 i (omega (arith, long)) last.1 h))
      (cases_eq (suc a) (length ring))

  each : (b i : ℕ) → slice_get ring b ≡ Some i → P i
  each zero i h = first i h
  each (suc b) i h =
      let low = get_below ring (suc b) i h in
      let before = get_within ring b (omega (arith, low)) in
      closed before.0 i (each b before.0 before.1) (r.next b before.0 i before.1 h)

  pub comes_back : P m
  comes_back = each a m at

pub off_ring : (graph : List (List ℕ)) (m : ℕ) (P : ℕ → Type 0) → ((i j : ℕ) → P i → Leads graph i j → P j) → ((j : ℕ) → Leads graph m j → P j) → (P m → ⊥) → IsOnRing graph m → ⊥
off_ring graph m P closed starts never on = never (comes_back graph m P closed starts on.0 on.1 on.2.0 on.2.1)

-- a walk from a node that does not meet it again
pub not_met : (graph : List (List ℕ)) (m new now : ℕ) (labels left stack done : List ℕ) → Walking graph m new now labels left stack done → stack ≡ [] → CameTo labels now m → IsOnRing graph m → ⊥
not_met graph m new now labels left stack done w empty came =
    let P : ℕ → Type 0 = λ j. (j ≡ m → ⊥) × CameTo labels now j in
    let goes : (i j : ℕ) → CameTo labels now i → Leads graph i j → P j = λ i j c leads.
    let on = walked graph m new now labels left stack done w empty i j c.0 c.1 c.2 leads in
    (on.0, (on.1.0, on.1.1, omega (arith, on.1.2, c.2))) in
    off_ring graph m P (λ i j p leads. goes i j p.1 leads) (λ j leads. goes m j came leads) (λ p. p.0 refl)

-- a walk from a node that meets it again
pub met_ring : (graph : List (List ℕ)) (m : ℕ) (start stack : List ℕ) → Met graph m stack → BeginsAs start stack → start ≡ m ∷ [] → IsRing graph stack × (slice_get stack 0 ≡ Some m)
met_ring graph m start stack met begins is_start = (
  record {
    some = met.some;
    next = met.path;
    round = λ a i j e h g. subst (Leads graph i) (same_Some m j (sym at ∙ g)) (met.last a i e h);
  },
  at,
)
  where
    at : slice_get stack 0 ≡ Some m
    at = let f = get_within stack 0 met.some in
        let g : Some m ≡ Some f.0 = sym (ap (λ xs. slice_get xs 0) is_start) ∙ begins f.0 f.1 in
        f.1 ∙ sym g

-- the first node that lies on a ring
pub first_of_all : (graph : List (List ℕ)) (m : ℕ) (ring : List ℕ) → IsRing graph ring → slice_get ring 0 ≡ Some m → ((i : ℕ) → i < m → IsOnRing graph i → ⊥) → IsFirstRing graph ring
first_of_all graph m ring r at below = record {
  ring = r;
  first = λ i j h on. let same = same_Some i m (sym h ∙ at) in let not_below : j < m → ⊥ = λ low. below j low on in omega (arith, same, not_below);
}

pub none_more : (graph : List (List ℕ)) (m : ℕ) → (IsOnRing graph m → ⊥) → ((i : ℕ) → i < m → IsOnRing graph i → ⊥) → (i : ℕ) → i < m + 1 → IsOnRing graph i → ⊥
none_more graph m off below i low on = ⊎_elim (λ e. off (subst (IsOnRing graph) e on)) (λ e. below i (omega (arith, low, e)) on) (cases_eq i m)
