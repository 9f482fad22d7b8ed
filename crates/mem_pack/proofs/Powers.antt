-- Powers of 2 that are at most 64.
use Rattle.std.proofs.Common.{◌≡◌, ℕ, ◌*◌, ◌%◌, ◌^◌, ◌≤◌, inl, inr, arith}
use Rattle.std.proofs.Math.Pow.{pow_mono}
use Rattle.std.proofs.lemmas.Bool.{cases_lt}
use Rattle.std.proofs.lemmas.Nat.{one_shl}

pub small_exponent : (k : ℕ) → 2 ^ k ≤ 64 → k ≤ 6
small_exponent k h =
    elim (cases_lt 6 k) as (λ _. k ≤ 6) [
      | inl l ↦ absurd (omega (arith, h, pow_mono {i = 7} {j = k} (omega (arith, l))))
      | inr le ↦ le
    ]

pub power_is : (k : ℕ) → 2 ^ k ≤ 64 → (1 * 2 ^ k) % 2 ^ 32 ≡ 2 ^ k
power_is k h = one_shl k 32 (omega (arith, small_exponent k h))

pub few_words : (k : ℕ) → k ≤ 6 → 2 ^ k ≤ 64
few_words k h = pow_mono {i = k} {j = 6} h
