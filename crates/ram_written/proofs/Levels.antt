-- The places of widths, and the least of levels.
use Rattle.std.proofs.Common.{◌≡◌, ℕ, zero, suc, ◌<◌, ◌≤◌, Bool, true, false, cond, List, [], ◌∷◌, length, get_or, Some, None, refl, ◌∙◌, sym, arith, ◌⊎◌, inl, inr}
use Rattle.std.specs.Prelude.{nat_eq, nat_le, nat_lt, min, ◌||◌}
use Rattle.std.specs.List.{list_all, list_any, position, position_or_len}
use Rattle.std.proofs.lemmas.Bool.{and_parts}
use Rattle.std.proofs.lemmas.Bool.Decides.{nat_tests}
use Rattle.std.proofs.lemmas.List.Sums.{position_or_len_is}
use Rattle.lib_core.specs.Rams.{width_at}
use Rattle.ram_rows.specs.RamRows.{least, least_from, place_or}

test_true : (a b : ℕ) → a ≡ b → nat_eq a b ≡ true
test_true a b h = grind (arith, nat_tests)

test_false : (a b : ℕ) (t : Bool) → nat_eq a b ≡ t → (a ≡ b → ⊥) → t ≡ false
test_false a b true e h = absurd (h (grind (arith, nat_tests)))
test_false a b false e h = refl

test_lt : (a b : ℕ) → a < b → nat_lt a b ≡ true
test_lt a b h = grind (arith, nat_tests)

width_is : (ws : List ℕ) (k : ℕ) → width_at ws k ≡ get_or ws k 0
width_is [] k = refl
width_is (w ∷ ws) zero = refl
width_is (w ∷ ws) (suc k) = width_is ws k

-- the place of the width of a level is the level
pub place_back : (ws : List ℕ) (l n : ℕ) → l < length ws → ((j k : ℕ) → j < length ws → k < length ws → width_at ws j ≡ width_at ws k → j ≡ k) → place_or n (position (nat_eq (width_at ws l)) ws) ≡ l
place_back ws l n h apart =
    let test = nat_eq (width_at ws l) in
    let before : (k : ℕ) → k < l → test (get_or ws k 0) ≡ false = λ k b. test_false (width_at ws l) (get_or ws k 0) (test (get_or ws k 0)) refl
    (λ e. let same : l ≡ k = apart l k h (omega (arith, b, h)) (e ∙ sym (width_is ws k)) in absurd (omega (arith, same, b))) in
    let here : test (get_or ws l 0) ≡ true = test_true (width_at ws l) (get_or ws l 0) (width_is ws l) in
    let place : position_or_len test ws ≡ l = position_or_len_is test ws l 0 (omega (arith, h)) before (λ b. here) in
    (λ i. place_or n (cond (nat_lt (place i) (length ws)) (Some (place i)) None))
    ∙ (λ i. place_or n (cond (test_lt l (length ws) h i) (Some l) None))

-- ---- the least

min_low : (m l s : ℕ) → s ≤ m → s ≤ l → (s ≡ m) ⊎ (s ≡ l) → min m l ≡ s
min_low m l s a b (inl e) = omega (arith, a, b, e)
min_low m l s a b (inr e) = omega (arith, a, b, e)

low_is : (s l : ℕ) → nat_le s l ≡ true → s ≤ l
low_is s l h = grind (arith, nat_tests)

same_is : (s l : ℕ) → nat_eq s l ≡ true → s ≡ l
same_is s l h = grind (arith, nat_tests)

-- the least of a list of levels to which it belongs
some_is : (l : ℕ) (ls : List ℕ) (s : ℕ) (t : Bool) → nat_eq s l ≡ t → (t || list_any (λ k. nat_eq s k) ls) ≡ true → (s ≡ l) ⊎ (list_any (λ k. nat_eq s k) ls ≡ true)
some_is l ls s true e h = inl (same_is s l e)
some_is l ls s false e h = inr h

least_is : (ls : List ℕ) (m s : ℕ) → s ≤ m → list_all (λ l. nat_le s l) ls ≡ true → (s ≡ m) ⊎ (list_any (λ l. nat_eq s l) ls ≡ true) → least_from m ls ≡ s
least_is [] m s a h (inl e) = sym e
least_is [] m s a h (inr e) = absurd (cc)
least_is (l ∷ ls) m s a h (inl e) =
    let p = and_parts (nat_le s l) (list_all (λ k. nat_le s k) ls) h in
    let now : min m l ≡ s = min_low m l s a (low_is s l p.0) (inl e) in
    least_is ls (min m l) s (omega (arith, now)) p.1 (inl (sym now))
least_is (l ∷ ls) m s a h (inr e) =
    let p = and_parts (nat_le s l) (list_all (λ k. nat_le s k) ls) h in
    let low = low_is s l p.0 in
    let small : s ≤ min m l = omega (arith, a, low) in
    elim (some_is l ls s (nat_eq s l) refl e) as (λ _. least_from (min m l) ls ≡ s) [
      | inl f ↦ least_is ls (min m l) s small p.1 (inl (sym (min_low m l s a low (inr f))))
      | inr f ↦ least_is ls (min m l) s small p.1 (inr f)
    ]

pub least_back : (ls : List ℕ) (s : ℕ) → list_any (λ l. nat_eq s l) ls ≡ true → list_all (λ l. nat_le s l) ls ≡ true → least ls ≡ s
least_back [] s e h = absurd (cc)
least_back (l ∷ ls) s e h =
    let p = and_parts (nat_le s l) (list_all (λ k. nat_le s k) ls) h in
    elim (some_is l ls s (nat_eq s l) refl e) as (λ _. least_from l ls ≡ s) [
      | inl f ↦ least_is ls l s (low_is s l p.0) p.1 (inl f)
      | inr f ↦ least_is ls l s (low_is s l p.0) p.1 (inr f)
    ]
