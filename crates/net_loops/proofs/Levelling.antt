-- Levels of nodes that a walk back through the graph gave, and what they tell about rings.
use Rattle.std.proofs.Common.{◌≡◌, ℕ, ◌<◌, ⊎_elim, List, [], ◌∷◌, ◌++◌, length, Some, sym, ap, ◌∙◌, arith}
use Rattle.std.specs.Prelude.{slice_get}
use Rattle.std.proofs.lemmas.Option.{same_Some}
use Rattle.net_core.proofs.Basics.{get_left, get_within}
use Rattle.net_core.proofs.Searching.{get_last}
use Rattle.net_core.specs.Search.{Leads, IsClosed}
use Rattle.net_loops.proofs.Circles.{off_ring}
use Rattle.net_loops.proofs.Walking.{walked}
use Rattle.net_loops.specs.Graphs.{AreTurned, AreLevels, IsOnRing}
use Rattle.net_loops.specs.Walks.{Resting}

pub are_levels : (graph turned : List (List ℕ)) (new now : ℕ) (labels left stack done : List ℕ) → now < new → length turned ≡ length graph → AreTurned graph turned → Resting turned new now labels left stack done → AreLevels graph labels
are_levels graph turned new now labels left stack done low same back r = record {
  count = r.walking.placed.labelled ∙ same;
  rise = λ i j x y leads hx hy. ⊎_elim
      (λ seen. let came = (walked turned new new now labels left stack done r.walking r.empty j i y hy seen ((back i j).1 leads)).1 in
      let e = same_Some x came.0 (sym hx ∙ came.1) in omega (arith, e, came.2))
      (λ fresh. ⊎_elim (λ seen. omega (arith, seen, low, fresh)) (λ other. omega (arith, other, fresh)) (r.walking.placed.most i x hx))
      (r.walking.placed.most j y hy);
}

pub off_level : (graph : List (List ℕ)) (levels : List ℕ) (m level : ℕ) (row : List ℕ) → IsClosed graph → AreLevels graph levels → slice_get levels m ≡ Some level → slice_get graph m ≡ Some row → ((k j : ℕ) → slice_get row k ≡ Some j → slice_get levels j ≡ Some level → ⊥) → IsOnRing graph m → ⊥
off_level graph levels m level row closed are at is_row none = off_ring graph m P goes starts (λ p. let e = same_Some p.0 level (sym p.1 ∙ at) in omega (arith, e, p.2))
  where
    P : ℕ → Type 0
    P j = (y : ℕ) × (slice_get levels j ≡ Some y) × (level < y)

    level_at : (i j : ℕ) → Leads graph i j → (y : ℕ) × (slice_get levels j ≡ Some y)
    level_at i j leads = let low = closed i j leads in get_within levels j (let e = are.count in omega (arith, low, e))

    goes : (i j : ℕ) → P i → Leads graph i j → P j
    goes i j p leads = let y = level_at i j leads in let rise = are.rise i j p.0 y.0 leads p.1 y.1 in (y.0, y.1, omega (arith, rise, p.2))

    starts : (j : ℕ) → Leads graph m j → P j
    starts j leads =
        let y = level_at m j leads in
        let rise = are.rise m j level y.0 leads at y.1 in
        let same : leads.0 ≡ row = same_Some leads.0 row (sym leads.2 ∙ is_row) in
        let other : y.0 ≡ level → ⊥ = λ e. none leads.1 j (ap (λ r. slice_get r leads.1) (sym same) ∙ leads.3) (y.1 ∙ ap Some e) in
        (y.0, y.1, omega (arith, rise, other))

-- the entries of a row are nodes
pub row_below : (graph : List (List ℕ)) (levels row : List ℕ) (m : ℕ) → IsClosed graph → AreLevels graph levels → slice_get graph m ≡ Some row → (k j : ℕ) → slice_get row k ≡ Some j → j < length levels
row_below graph levels row m closed are is_row k j h = let low = closed m j (row, k, is_row, h) in let e = are.count in omega (arith, low, e)

-- a list without its last
pub front_within : (order front : List ℕ) (last count : ℕ) → order ≡ front ++ last ∷ [] → ((a i : ℕ) → slice_get order a ≡ Some i → i < count) → (last < count) × ((a i : ℕ) → slice_get front a ≡ Some i → i < count)
front_within order front last count is_order all = (
  all (length front) last (ap (λ xs. slice_get xs (length front)) is_order ∙ get_last front last),
  λ a i h. all a i (ap (λ xs. slice_get xs a) is_order ∙ get_left front (last ∷ []) a i h),
)

pub front_kept : (order front more : List ℕ) (count : ℕ) → order ≡ front ++ more → ((a i : ℕ) → slice_get order a ≡ Some i → i < count) → (a i : ℕ) → slice_get front a ≡ Some i → i < count
front_kept order front more count is_order all a i h = all a i (ap (λ xs. slice_get xs a) is_order ∙ get_left front more a i h)
