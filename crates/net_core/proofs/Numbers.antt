-- Places in lists of numbers, and products.
use Rattle.std.proofs.Common.{◌≡◌, ℕ, zero, suc, ◌*◌, ◌^◌, ◌%◌, ◌<◌, ◌≤◌, false, List, [], ◌∷◌, get_or, refl, ap, ◌∙◌, arith, nat_eq}
use Rattle.std.proofs.Math.Nat.{mul-mod_left, le-mul_of_pos_right}
use Rattle.std.proofs.Math.Pow.{pow_mono}
use Rattle.std.proofs.lemmas.Bool.{ne_eqb}
use Rattle.lib_core.specs.Rams.{width_at}

pub width_at_is : (xs : List ℕ) (k : ℕ) → width_at xs k ≡ get_or xs k 0
width_at_is [] k = refl
width_at_is (x ∷ xs) zero = refl
width_at_is (x ∷ xs) (suc k) = width_at_is xs k

-- a number with a remainder is no multiple
pub no_multiple : (n p f : ℕ) → (n % f ≡ 0 → ⊥) → nat_eq n (p * f) ≡ false
no_multiple n p f h = ne_eqb n (p * f) (λ e. h (ap (λ x. x % f) e ∙ mul-mod_left p f))

-- a number that fits 64 bits is less than a multiple of a higher power
pub no_high_multiple : (n p f : ℕ) → n < 2 ^ 64 → 64 ≤ p → 0 < f → nat_eq n (2 ^ p * f) ≡ false
no_high_multiple n p f small high pos =
    let one : 2 ^ 64 ≤ 2 ^ p = pow_mono {i = 64} {j = p} high in
    let two : 2 ^ p ≤ 2 ^ p * f = le-mul_of_pos_right (2 ^ p) pos in
    ne_eqb n (2 ^ p * f) (λ e. omega (arith, one, two, e))
