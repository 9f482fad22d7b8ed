-- Numbers below another one, from the top down.
use Rattle.std.proofs.Common.{◌≡◌, ℕ, zero, suc, ◌-◌, ◌<◌, ◌≤◌, Bool, false, ◌||◌, refl, arith}
use Rattle.net_gather.specs.PortClocks.{any_below}

pub below_turn : (has : ℕ → Bool) (n : ℕ) → 0 < n → any_below has n ≡ (has (n - 1) || any_below has (n - 1))
below_turn has zero h = absurd (omega arith)
below_turn has (suc n) h = let e : suc n - 1 ≡ n = omega arith in rw e refl

pub below_done : (has : ℕ → Bool) (n : ℕ) → n ≤ 0 → any_below has n ≡ false
below_done has zero h = refl
below_done has (suc n) h = absurd (omega arith)
