-- Sums of products that wrap at every step are the whole sum, wrapped once.
use Rattle.std.proofs.Common.{◌≡◌, ℕ, ◌+◌, ◌%◌, ◌∙◌, ap}
use Rattle.std.proofs.Math.Nat.{add-mod-mod, mod-add-mod}

pub two_wrap : (n a b : ℕ) → (a % n + b % n) % n ≡ (a + b) % n
two_wrap n a b = add-mod-mod (a % n) b n ∙ mod-add-mod a n b

pub sum_wraps : (n a b c d : ℕ) → (((a % n + b % n) % n + c % n) % n + d % n) % n ≡ (a + b + c + d) % n
sum_wraps n a b c d =
    ap (λ (x : ℕ). (x + d % n) % n) (ap (λ (x : ℕ). (x + c % n) % n) (two_wrap n a b) ∙ two_wrap n (a + b) c) ∙ two_wrap n (a + b + c) d
