-- The digits of numbers, counted by the powers of ten below them.
use Rattle.std.proofs.Common.{◌≡◌, ℕ, zero, suc, ◌+◌, ◌-◌, ◌*◌, ◌/◌, ◌%◌, ◌^◌, ◌<◌, ◌≤◌, inl, inr, [], ◌∷◌, length, decimal, cond, leb, arith, refl, sym, ap, ◌∙◌, length-append}
use Rattle.std.proofs.lemmas.Fmt.{decimal_digit, decimal_step_wide, length-decimal-le}
use Rattle.std.proofs.lemmas.Bool.Decides.{nat_tests}
use Rattle.std.proofs.lemmas.Bool.{cases_lt}
use Rattle.std.proofs.Math.Nat.{pow-suc, one-le-pow}
use Rattle.trace_text.specs.Lengths.{digits_below}

-- 1 where the number is not below the power
abbrev pub reaches : ℕ → ℕ → ℕ
reaches power n = cond (leb power n) 1 0

-- the digits of a number, of which it has one, and one more for each of the powers of ten from 10 to 10 ^ k that it reaches
abbrev pub digits_to : ℕ → ℕ → ℕ
digits_to zero n = 1
digits_to (suc k) n = digits_to k n + reaches (10 ^ suc k) n

abbrev pub sum_below : (ℕ → ℕ) → ℕ → ℕ
sum_below f zero = 0
sum_below f (suc n) = sum_below f n + f n

pub reached : (power n : ℕ) → power ≤ n → reaches power n ≡ 1
reached power n h = grind (arith, nat_tests)

pub unreached : (power n : ℕ) → n < power → reaches power n ≡ 0
unreached power n h = grind (arith, nat_tests)

-- a power is reached where its tenth is reached by the tenth
reaches_tenth : (p n : ℕ) → reaches (10 * p) n ≡ reaches p (n / 10)
reaches_tenth p n =
    elim (cases_lt n (10 * p)) [
      | inl h ↦ unreached (10 * p) n h ∙ sym (unreached p (n / 10) (omega (arith, h)))
      | inr h ↦ reached (10 * p) n h ∙ sym (reached p (n / 10) (omega (arith, h)))
    ]

pub power_more : (k : ℕ) → 10 ^ suc (suc k) ≡ 10 * 10 ^ suc k
power_more k = omega (arith, pow-suc 10 (suc k))

digits_step : (k n : ℕ) → 10 ≤ n → digits_to (suc k) n ≡ digits_to k (n / 10) + 1
digits_step zero n h = omega (arith, reached 10 n h)
digits_step (suc k) n h =
    let step : digits_to (suc k) n ≡ digits_to k (n / 10) + 1 = digits_step k n h in
    let same : reaches (10 ^ suc (suc k)) n ≡ reaches (10 ^ suc k) (n / 10) = ap (λ p. reaches p n) (power_more k) ∙ reaches_tenth (10 ^ suc k) n in
    omega (arith, step, same)

one_digit : (k n : ℕ) → n < 10 → digits_to k n ≡ 1
one_digit zero n h = refl
one_digit (suc k) n h =
    let power : 10 ^ suc k ≡ 10 * 10 ^ k = omega (arith, pow-suc 10 k) in
    omega (arith, one_digit k n h, unreached (10 ^ suc k) n (omega (arith, power, h, one-le-pow k 10 (omega arith))))

pub length_step : (n : ℕ) → 10 ≤ n → n < 10 ^ 64 → length (decimal n) ≡ length (decimal (n / 10)) + 1
length_step n h small = ap length (decimal_step_wide n h small) ∙ length-append (decimal (n / 10)) ((48 + n % 10) ∷ [])

pub length_one : (n : ℕ) → n < 10 → length (decimal n) ≡ 1
length_one n h = ap length (decimal_digit n h)

pub length_most : (n : ℕ) → n < 2 ^ 64 → length (decimal n) ≤ 20
length_most n h = length-decimal-le 20 n (omega arith) (omega (arith, h)) h

-- a number below a power has no more digits than the powers below that tell
pub all_digits : (k n : ℕ) → n < 10 ^ suc k → n < 10 ^ 64 → digits_to k n ≡ length (decimal n)
all_digits zero n h small = sym (length_one n (omega arith))
all_digits (suc k) n h small =
    elim (cases_lt n 10) [
      | inl few ↦ one_digit (suc k) n few ∙ sym (length_one n few)
      | inr more ↦
          let e : digits_to k (n / 10) ≡ length (decimal (n / 10)) = all_digits k (n / 10) (omega (arith, power_more k, h)) (omega (arith, small)) in
          omega (arith, digits_step k n more, e, length_step n more small)
    ]

-- numbers below a limit that reach a power
pub sum_reaches : (f : ℕ → ℕ) (power n : ℕ) → sum_below (λ i. f i + reaches power i) n ≡ sum_below f n + (n - power)
sum_reaches f power zero = omega arith
sum_reaches f power (suc n) =
    let before = sum_reaches f power n in
    elim (cases_lt n power) [
      | inl h ↦ omega (arith, before, unreached power n h)
      | inr h ↦ omega (arith, before, reached power n h)
    ]

sum_ones : (n : ℕ) → sum_below (λ i. 1) n ≡ n
sum_ones zero = refl
sum_ones (suc n) = omega (arith, sum_ones n)

pub sum_first : (n : ℕ) → sum_below (digits_to 0) n ≡ n
sum_first n = sum_ones n

pub sum_next : (k n : ℕ) → sum_below (digits_to (suc k)) n ≡ sum_below (digits_to k) n + (n - 10 ^ suc k)
sum_next k n = sum_reaches (digits_to k) (10 ^ suc k) n

pub sum_all : (k n : ℕ) → n ≤ 10 ^ suc k → n ≤ 10 ^ 64 → sum_below (digits_to k) n ≡ digits_below n
unfolding digits_below
sum_all k zero h small = refl
sum_all k (suc n) h small =
    omega (arith, sum_all k n (omega arith) (omega arith), all_digits k n (omega arith) (omega arith))
