-- Rows that are filled item by item, and rows that are turned.
use Rattle.std.proofs.Common.{◌≡◌, ℕ, ◌+◌, ◌<◌, ◌≤◌, inl, inr, ⊎_elim, List, [], ◌∷◌, ◌++◌, length, map, get_or, set, Some, refl, sym, ap, ◌∙◌, arith}
use Rattle.std.specs.Prelude.{◌↔◌, slice_get, unwrap_or}
use Rattle.std.proofs.lemmas.Option.{same_Some, slice_get_read}
use Rattle.std.proofs.lemmas.Bool.{cases_eq}
use Rattle.net_core.proofs.Basics.{get_below}
use Rattle.net_core.proofs.Searching.{get_pushed}
use Rattle.net_core.proofs.Wired.{driver_more}
use Rattle.net_core.specs.Search.{Leads}
use Rattle.net_core.specs.Wiring.{AddsDriver}
use Rattle.net_loops.specs.Graphs.{AreTurned}

-- one empty row more
pub none_pushed : (table now : List (List ℕ)) (row : List ℕ) → now ≡ table ++ row ∷ [] → row ≡ [] → ((n j : ℕ) → Leads table n j → ⊥) → (n j : ℕ) → Leads now n j → ⊥
none_pushed table now row is_now empty none n j h =
    let at : slice_get (table ++ row ∷ []) n ≡ Some h.0 = ap (λ l. slice_get l n) (sym is_now) ∙ h.2 in
    ⊎_elim (λ g. none n j (h.0, h.1, g, h.3)) (λ g. let entry : slice_get [] h.1 ≡ Some j = ap (λ l. slice_get l h.1) (sym empty ∙ g.1) ∙ h.3 in cc) (get_pushed table row h.0 n at)

-- one write to a row
pub row_step : (old table : List (List ℕ)) (row now : List ℕ) (nets : List ℕ) (node i net : ℕ) → net < length table → row ≡ get_or table net row → now ≡ row ++ node ∷ [] → slice_get nets i ≡ Some net
    → AddsDriver old table node (λ n. (k : ℕ) × (k < i) × (slice_get nets k ≡ Some n)) → AddsDriver old (set table net now) node (λ n. (k : ℕ) × (k < i + 1) × (slice_get nets k ≡ Some n))
row_step old table row now nets node i net within is_row pushed is_net before =
    driver_more old table (set table net now) nets node i net row (slice_get_read table (length table) net row refl within is_row) (ap (set table net) pushed) is_net before

-- the first so many rows are turned
abbrev pub TurnedFirst : List (List ℕ) → List (List ℕ) → ℕ → Type 0
TurnedFirst rows turned count = (i j : ℕ) → Leads turned j i ↔ ((i < count) × Leads rows i j)

pub turned_none : (rows turned : List (List ℕ)) → ((n j : ℕ) → Leads turned n j → ⊥) → TurnedFirst rows turned 0
turned_none rows turned none i j = (λ h. absurd (none j i h), λ h. absurd (omega (arith, h.0)))

pub turned_more : (rows old now : List (List ℕ)) (at node : ℕ) (row places : List ℕ) → node ≡ at → slice_get rows at ≡ Some row → places ≡ row → AddsDriver old now node (λ n. (k : ℕ) × (slice_get places k ≡ Some n)) → TurnedFirst rows old at → TurnedFirst rows now (at + 1)
turned_more rows old now at node row places same is_row is_places adds before i j = (forth, back)
  where
    forth : Leads now j i → (i < at + 1) × Leads rows i j
    forth h = ⊎_elim (λ o. let b = (before i j).0 o in (omega (arith, b.0), b.1))
        (λ a. (omega (arith, a.0, same), (row, a.1.0, ap (slice_get rows) (a.0 ∙ same) ∙ is_row, ap (λ l. slice_get l a.1.0) (sym is_places) ∙ a.1.1))) ((adds j i).0 h)

    back : (i < at + 1) × Leads rows i j → Leads now j i
    back h = ⊎_elim
        (λ e. let q : h.1.0 ≡ row = same_Some h.1.0 row (sym h.1.2 ∙ ap (slice_get rows) e ∙ is_row) in
        (adds j i).1 (inr (e ∙ sym same, (h.1.1, ap (λ l. slice_get l h.1.1) (is_places ∙ sym q) ∙ h.1.3))))
        (λ e. (adds j i).1 (inl ((before i j).1 (omega (arith, h.0, e), h.1)))) (cases_eq i at)

pub turned_all : (rows turned : List (List ℕ)) (count : ℕ) → length rows ≤ count → TurnedFirst rows turned count → AreTurned rows turned
turned_all rows turned count past h i j = (λ leads. ((h i j).0 leads).1, λ d. let low = get_below rows i d.0 d.2 in (h i j).1 (omega (arith, low, past), d))

pub map_pushed : {X Y : Type 0} (f : X → Y) (xs : List X) (x : X) → map f (xs ++ x ∷ []) ≡ map f xs ++ f x ∷ []
map_pushed f [] x = refl
map_pushed f (y ∷ ys) x = ap (λ zs. f y ∷ zs) (map_pushed f ys x)

pub row_read : (table : List (List ℕ)) (row : List ℕ) (net : ℕ) → net < length table → row ≡ get_or table net row → unwrap_or (slice_get table net) [] ≡ row
row_read table row net within is_row = ap (λ r. unwrap_or r []) (slice_get_read table (length table) net row refl within is_row)
