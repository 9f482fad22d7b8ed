-- Powers of 2 and the numbers of bits.
use Rattle.std.proofs.Common.{◌≡◌, ℕ, zero, suc, ◌+◌, ◌*◌, ◌%◌, ◌^◌, ◌≤◌, ◌<◌, true, false, cond, nat_le, inl, inr, sym, ap, subst, ◌∙◌, arith}
use Rattle.std.proofs.Math.Nat.{eq-or-lt_of_le, two-pow-succ}
use Rattle.std.proofs.lemmas.Nat.{one_shl, pow_pos}
use Rattle.fit_rules.specs.Bits.{bits_from, bits_to}

pub shifted_is : (k : ℕ) → k ≤ 32 → (1 * 2 ^ k) % 2 ^ 64 ≡ 2 ^ k
shifted_is k h = one_shl k 64 (omega arith)

pub small_shifted_is : (k : ℕ) → k ≤ 20 → (1 * 2 ^ k) % 2 ^ 32 ≡ 2 ^ k
small_shifted_is k h = one_shl k 32 (omega arith)

le_true : (a b : ℕ) → a ≤ b → nat_le a b ≡ true
le_true a b h = grind arith

le_false : (a b : ℕ) → b < a → nat_le a b ≡ false
le_false a b h = grind arith

-- the first b that is enough is found, from one that is not above it
found_from : (more bits n b : ℕ) → n ≤ 2 ^ b → ((k : ℕ) → k < b → 2 ^ k < n) → bits ≤ b → b ≤ bits + more → bits_from more bits n ≡ b
found_from zero bits n b enough below h k = omega (arith, h, k)
found_from (suc more) bits n b enough below h k =
    elim (eq-or-lt_of_le {n = bits} {m = b} h) as (λ _. cond (nat_le n (2 ^ bits)) bits (bits_from more (bits + 1) n) ≡ b) [
      | inl e ↦ ap (λ t. cond t bits (bits_from more (bits + 1) n)) (le_true n (2 ^ bits) (subst (λ c. n ≤ 2 ^ c) (sym e) enough)) ∙ e
      | inr l ↦ ap (λ t. cond t bits (bits_from more (bits + 1) n)) (le_false n (2 ^ bits) (below bits l)) ∙ found_from more (bits + 1) n b enough below (omega (arith, l)) (omega (arith, k))
    ]

above : (k : ℕ) → k < 2 ^ k
above zero = pow_pos zero
above (suc k) = omega (arith, two-pow-succ k, above k)

below_itself : (n b : ℕ) → ((k : ℕ) → k < b → 2 ^ k < n) → b ≤ n
below_itself n zero below = omega arith
below_itself n (suc b) below = omega (arith, below b (omega arith), above b)

pub bits_to_is : (n b : ℕ) → n ≤ 2 ^ b → ((k : ℕ) → k < b → 2 ^ k < n) → bits_to n ≡ b
bits_to_is n b enough below = found_from n 0 n b enough below (omega arith) (omega (arith, below_itself n b below))
