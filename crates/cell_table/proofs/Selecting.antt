-- The selectors that are set, one place after the other.
use Rattle.std.proofs.Common.{◌≡◌, ℕ, ◌+◌, ◌<◌, Bool, true, false, cond, List, [], ◌∷◌, length, drop, refl, ap, ◌∙◌, sym}
use Rattle.net_core.specs.Values.{bit_at}
use Rattle.net_core.specs.Logic.{set_places}
use Rattle.cell_table.specs.declared.selector.Selection.{Selection}
use Rattle.cell_table.specs.declared.selector.Selection.TheVariants.{Nothing, One, Several}
use Rattle.cell_table.specs.Selection.{selection_of, with_place}
use Rattle.cell_table.proofs.Operands.{drop_bit}

-- what is selected, from what was so far and the places that come
abbrev pub joined : Selection → List ℕ → Selection
joined Nothing rest = selection_of rest
joined (One place) rest = selection_of (place ∷ rest)
joined Several rest = Several

joined_more : (so_far : Selection) (at : ℕ) (rest : List ℕ) → joined so_far (at ∷ rest) ≡ joined (with_place so_far at) rest
joined_more Nothing at rest = refl
joined_more (One place) at [] = refl
joined_more (One place) at (x ∷ rest) = refl
joined_more Several at rest = refl

pub joined_set : (so_far answer : Selection) (xs : List Bool) (at : ℕ) → at < length xs → bit_at xs at ≡ true → joined so_far (set_places (drop at xs) at) ≡ answer → joined (with_place so_far at) (set_places (drop (at + 1) xs) (at + 1)) ≡ answer
joined_set so_far answer xs at h set before =
    let e : set_places (drop at xs) at ≡ at ∷ set_places (drop (at + 1) xs) (at + 1) = ap (λ ys. set_places ys at) (drop_bit xs at h) ∙ ap (λ b. cond b (at ∷ set_places (drop (at + 1) xs) (at + 1)) (set_places (drop (at + 1) xs) (at + 1))) set in
    sym (joined_more so_far at _) ∙ sym (ap (joined so_far) e) ∙ before

pub joined_clear : (so_far answer : Selection) (xs : List Bool) (at : ℕ) → at < length xs → bit_at xs at ≡ false → joined so_far (set_places (drop at xs) at) ≡ answer → joined so_far (set_places (drop (at + 1) xs) (at + 1)) ≡ answer
joined_clear so_far answer xs at h clear before =
    let e : set_places (drop at xs) at ≡ set_places (drop (at + 1) xs) (at + 1) = ap (λ ys. set_places ys at) (drop_bit xs at h) ∙ ap (λ b. cond b (at ∷ set_places (drop (at + 1) xs) (at + 1)) (set_places (drop (at + 1) xs) (at + 1))) clear in
    sym (ap (joined so_far) e) ∙ before

pub joined_end : (so_far answer : Selection) (xs : List Bool) (at : ℕ) → set_places (drop at xs) at ≡ [] → joined so_far (set_places (drop at xs) at) ≡ answer → so_far ≡ answer
joined_end so_far answer xs at e before = sym (alone so_far) ∙ sym (ap (joined so_far) e) ∙ before
  where
    alone : (so_far : Selection) → joined so_far [] ≡ so_far
    alone Nothing = refl
    alone (One place) = refl
    alone Several = refl
