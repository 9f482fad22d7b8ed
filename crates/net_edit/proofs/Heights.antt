-- Ranks of bits.
use Rattle.std.proofs.Common.{◌≡◌, ℕ, zero, suc, ◌<◌, ◌≤◌, max, List, [], ◌∷◌, ◌++◌, Some, refl, sym, ap, arith}
use Rattle.std.proofs.lemmas.Option.{same_Some}
use Rattle.net_core.specs.declared.bits.Bit.{Bit}
use Rattle.net_core.specs.declared.bits.Bit.TheVariants.{Zero, One, Net}
use Rattle.net_core.specs.Nodes.{HasNet}
use Rattle.net_edit.specs.Ranks.{bit_height, height}

pub height_at : (rank : ℕ → ℕ) (bits : List Bit) (n : ℕ) → HasNet bits n → rank n < height rank bits
height_at rank [] n (k, h) = cc
height_at rank (b ∷ bs) n (zero, h) = let e : suc (rank n) ≡ bit_height rank b = ap (bit_height rank) (sym (same_Some b (Net n) h)) in omega (arith, e)
height_at rank (b ∷ bs) n (suc k, h) = let r = height_at rank bs n (k, h) in omega (arith, r)

-- a height is what bounds each net
pub height_least : (rank : ℕ → ℕ) (bits : List Bit) (top : ℕ) → ((n : ℕ) → HasNet bits n → rank n < top) → height rank bits ≤ top
height_least rank [] top h = omega arith
height_least rank (b ∷ bs) top h = let r = height_least rank bs top (λ n (k, at). h n (suc k, at)) in let q = first b (λ n e. h n (0, ap Some e)) in omega (arith, r, q)
  where
    first : (b : Bit) → ((n : ℕ) → b ≡ Net n → rank n < top) → bit_height rank b ≤ top
    first Zero g = omega arith
    first One g = omega arith
    first (Net n) g = let l = g n refl in omega (arith, l)

pub height_joined : (rank : ℕ → ℕ) (xs ys : List Bit) → height rank (xs ++ ys) ≡ max (height rank xs) (height rank ys)
height_joined rank [] ys = omega arith
height_joined rank (x ∷ xs) ys = let r = height_joined rank xs ys in omega (arith, r)
