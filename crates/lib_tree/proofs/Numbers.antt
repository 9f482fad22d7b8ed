-- Numbers only grow with more digits.
use Rattle.std.proofs.Common.{◌≡◌, ℕ, ◌+◌, ◌-◌, ◌*◌, ◌≤◌, ◌^◌, List, [], ◌∷◌, arith, refl, None}
use Rattle.std.specs.Prelude.{nat_lt, false}
use Rattle.std.proofs.lemmas.Bool.{le-ltb}
use Rattle.lib_tree.specs.Lex.{number_from, number_in}

pub grows : (n : ℕ) (bs : List ℕ) → n ≤ number_from n bs
unfolding number_from
grows n [] = omega arith
grows n (b ∷ bs) = omega (arith, grows (10 * n + (b - 48)) bs)

pub too_large : (n : ℕ) (bs ds : List ℕ) → number_from n bs ≡ number_from 0 ds → 2 ^ 32 ≤ n → number_in ds ≡ None
unfolding number_in
too_large n bs ds e h =
    let k : nat_lt (number_from 0 ds) (2 ^ 32) ≡ false = le-ltb (number_from 0 ds) (2 ^ 32) (omega (arith, grows n bs)) in
    rw k refl
