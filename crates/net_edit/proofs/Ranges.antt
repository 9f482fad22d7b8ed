-- Numbers from one on.
use Rattle.std.proofs.Common.{◌≡◌, ℕ, zero, suc, ◌+◌, ◌<◌, [], ◌∷◌, ◌++◌, Some, ap, ◌∙◌, arith}
use Rattle.std.specs.Prelude.{slice_get}
use Rattle.std.specs.List.{range_with_len}
use Rattle.std.proofs.lemmas.Option.{same_Some}

pub range_more : (a n : ℕ) → range_with_len a (n + 1) ≡ range_with_len a n ++ (a + n) ∷ []
range_more a n = let e : n + 1 ≡ suc n = omega arith in ap (range_with_len a) e ∙ last_of n a
  where
    last_of : (n a : ℕ) → range_with_len a (suc n) ≡ range_with_len a n ++ (a + n) ∷ []
    last_of zero a = let e : a ≡ a + 0 = omega arith in ap (λ x. x ∷ []) e
    last_of (suc n) a = let e : a + 1 + n ≡ a + suc n = omega arith in ap (λ l. a ∷ l) (last_of n (a + 1) ∙ ap (λ x. range_with_len (a + 1) n ++ x ∷ []) e)

pub range_at : (a count k n : ℕ) → slice_get (range_with_len a count) k ≡ Some n → n ≡ a + k
range_at a zero k n h = cc
range_at a (suc count) zero n h = let e : a ≡ n = same_Some a n h in omega (arith, e)
range_at a (suc count) (suc k) n h = let r = range_at (a + 1) count k n h in omega (arith, r)

pub range_below : (a count k n : ℕ) → slice_get (range_with_len a count) k ≡ Some n → k < count
range_below a zero k n h = cc
range_below a (suc count) zero n h = omega arith
range_below a (suc count) (suc k) n h = let r = range_below (a + 1) count k n h in omega (arith, r)
