-- Sums and products that stop at a greatest number.
use Rattle.std.proofs.Common.{◌≡◌, ℕ, zero, suc, ◌+◌, ◌*◌, ◌≤◌, inl, inr, min, arith, sym, ap, ◌∙◌}
use Rattle.std.proofs.lemmas.Bool.{cases_lt}
use Rattle.std.proofs.lemmas.Nat.{mul-le}

pub min_add : (t a b : ℕ) → min (min a t + min b t) t ≡ min (a + b) t
min_add t a b = omega arith

pub min_left : (t a b : ℕ) → min (min a t + b) t ≡ min (a + b) t
min_left t a b = omega arith

-- a product is as great as a factor where the other is not 0
great : (t a b : ℕ) → t ≤ a → t ≤ a * suc b
great t a b h = omega (arith, mul-le a 1 a (suc b) (omega arith) (omega arith), h)

great_turned : (t a b : ℕ) → t ≤ b → t ≤ suc a * b
great_turned t a b h = omega (arith, mul-le 1 b (suc a) b (omega arith) (omega arith), h)

is_top : (t n : ℕ) → t ≤ n → min n t ≡ t
is_top t n h = omega arith

is_self : (t n : ℕ) → n ≤ t → min n t ≡ n
is_self t n h = omega arith

left_over : (t a b : ℕ) → t ≤ a → min (t * min b t) t ≡ min (a * b) t
left_over t a zero h = grind arith
left_over zero a (suc b) h = grind arith
left_over (suc t) a (suc b) h =
    let one : 1 ≤ min (suc b) (suc t) = omega arith in
    is_top (suc t) (suc t * min (suc b) (suc t)) (omega (arith, mul-le (suc t) 1 (suc t) (min (suc b) (suc t)) (omega arith) one))
    ∙ sym (is_top (suc t) (a * suc b) (great (suc t) a b h))

scaled_over : (t a b : ℕ) → t ≤ b → min (a * t) t ≡ min (a * b) t
scaled_over t zero b h = grind arith
scaled_over t (suc a) b h = is_top t (suc a * t) (great_turned t a t (omega arith)) ∙ sym (is_top t (suc a * b) (great_turned t a b h))

right_over : (t a b : ℕ) → t ≤ b → min (min a t * t) t ≡ min (a * b) t
right_over t zero b h = grind arith
right_over zero (suc a) b h = grind arith
right_over (suc t) (suc a) b h =
    let one : 1 ≤ min (suc a) (suc t) = omega arith in
    is_top (suc t) (min (suc a) (suc t) * suc t) (omega (arith, mul-le 1 (suc t) (min (suc a) (suc t)) (suc t) one (omega arith)))
    ∙ sym (is_top (suc t) (suc a * b) (great_turned (suc t) a b h))

within : (t a b : ℕ) → a ≤ t → b ≤ t → min (min a t * min b t) t ≡ min (a * b) t
within t a b ha hb = ap (λ n. min (n * min b t) t) (is_self t a ha) ∙ ap (λ n. min (a * n) t) (is_self t b hb)

pub min_mul : (t a b : ℕ) → min (min a t * min b t) t ≡ min (a * b) t
min_mul t a b =
    elim (cases_lt t a) [
      | inl h ↦ ap (λ n. min (n * min b t) t) (is_top t a (omega arith)) ∙ left_over t a b (omega arith)
      | inr h ↦ elim (cases_lt t b) [
        | inl k ↦ ap (λ n. min (min a t * n) t) (is_top t b (omega arith)) ∙ right_over t a b (omega arith)
        | inr k ↦ within t a b h k
      ]
    ]

pub min_scaled : (t a b : ℕ) → min (a * min b t) t ≡ min (a * b) t
min_scaled t a b =
    elim (cases_lt t b) [
      | inl h ↦ ap (λ n. min (a * n) t) (is_top t b (omega arith)) ∙ scaled_over t a b (omega arith)
      | inr h ↦ ap (λ n. min (a * n) t) (is_self t b h)
    ]

-- ---- what the lines of events and runs come to

pub events_sum : (t rows numbers events bytes count digits line all scaled result : ℕ)
    → count ≡ min rows t → digits ≡ min numbers t → line ≡ min bytes t → all ≡ min (count * digits) t → scaled ≡ min (events * line) t → result ≡ min (all + scaled) t
    → result ≡ min (rows * numbers + events * bytes) t
events_sum t rows numbers events bytes count digits line all scaled result c d l a s r =
    let product : all ≡ min (rows * numbers) t = a ∙ (λ i. min (c i * d i) t) ∙ min_mul t rows numbers in
    let scale : scaled ≡ min (events * bytes) t = s ∙ ap (λ n. min (events * n) t) l ∙ min_scaled t events bytes in
    omega (arith, product, scale, r)

pub runs_sum : (t numbers seeds lines digits events run scaled result : ℕ)
    → digits ≡ min numbers t → events ≡ min lines t → run ≡ min (events + 6) t → scaled ≡ min (seeds * run) t → result ≡ min (digits + scaled) t
    → result ≡ min (numbers + seeds * (6 + lines)) t
runs_sum t numbers seeds lines digits events run scaled result d e r s is =
    let whole : run ≡ min (6 + lines) t = omega (arith, e, r) in
    let scale : scaled ≡ min (seeds * (6 + lines)) t = s ∙ ap (λ n. min (seeds * n) t) whole ∙ min_scaled t seeds (6 + lines) in
    omega (arith, d, scale, is)

pub joined : (t first later all before result : ℕ) → before ≡ min (0 + first) t → result ≡ min (before + later) t → all ≡ first + later → result ≡ min all t
joined t first later all before result b r e = omega (arith, b, r, e)
