-- More values than places: two are equal.
use Rattle.std.proofs.Common.{◌≡◌, ◌⊎◌, inl, inr, ℕ, zero, suc, ◌<◌, ◌≤◌, cond, sym, ap, ◌∙◌, arith}
use Rattle.std.proofs.Math.Dec.{eqb}
use Rattle.std.proofs.lemmas.Bool.{cases_eq}

pub looked_for : (f : ℕ → ℕ) (v n : ℕ) → ((k : ℕ) × (k < n) × (f k ≡ v)) ⊎ ((k : ℕ) → k < n → f k ≡ v → ⊥)
looked_for f v zero = inr (λ k h e. omega (arith, h))
looked_for f v (suc n) =
    elim (cases_eq (f n) v) [
      | inl e ↦ inl (n, omega arith, e)
      | inr ne ↦ elim (looked_for f v n) [
        | inl (k, h, e) ↦ inl (k, omega (arith, h), e)
        | inr none ↦ inr (λ k h e. elim (cases_eq k n) [ inl same ↦ ne (ap f (sym same) ∙ e) | inr other ↦ none k (omega (arith, h, other)) e ])
      ]
    ]

pub record Twice (f : ℕ → ℕ) (n : ℕ) : Type 0 where
  pub first : ℕ
  pub second : ℕ
  pub before : first < second
  pub until : second ≤ n
  pub same : f first ≡ f second

-- v in the place of m
abbrev pub swapped : ℕ → ℕ → ℕ → ℕ
swapped m v x = cond (eqb x m) v x

pub swap_hit : (m v x : ℕ) → x ≡ m → swapped m v x ≡ v
swap_hit m v x e = grind arith

pub swap_miss : (m v x : ℕ) → (x ≡ m → ⊥) → swapped m v x ≡ x
swap_miss m v x ne = grind arith

pub pigeons : (m : ℕ) (f : ℕ → ℕ) → ((k : ℕ) → k ≤ m → f k < m) → Twice f m
pigeons zero f h = absurd (omega (arith, h 0 (omega arith)))
pigeons (suc m) f h =
    elim (looked_for f (f (suc m)) (suc m)) [
      | inl (k, lt, e) ↦ record { first = k; second = suc m; before = lt; until = omega arith; same = e }
      | inr none ↦
          let v : ℕ = f (suc m) in
          let small : (k : ℕ) → k ≤ m → swapped m v (f k) < m =
          λ k le. elim (cases_eq (f k) m) [
            | inl e ↦ let s = swap_hit m v (f k) e in omega (arith, s, h (suc m) (omega arith), none k (omega (arith, le)), e)
            | inr ne ↦ let s = swap_miss m v (f k) ne in omega (arith, s, h k (omega (arith, le)), ne)
          ] in
          let t = pigeons m (λ k. swapped m v (f k)) small in
          let a = t.first in
          let b = t.second in
          let la : a < suc m = omega (arith, t.before, t.until) in
          let lb : b < suc m = omega (arith, t.until) in
          let same : f a ≡ f b =
          elim (cases_eq (f a) m) [
            | inl ea ↦ elim (cases_eq (f b) m) [
              | inl eb ↦ ea ∙ sym eb
              | inr nb ↦ absurd (none b lb (sym (swap_miss m v (f b) nb) ∙ sym t.same ∙ swap_hit m v (f a) ea))
            ]
            | inr na ↦ elim (cases_eq (f b) m) [
              | inl eb ↦ absurd (none a la (sym (swap_miss m v (f a) na) ∙ t.same ∙ swap_hit m v (f b) eb))
              | inr nb ↦ sym (swap_miss m v (f a) na) ∙ t.same ∙ swap_miss m v (f b) nb
            ]
          ] in
          record { first = a; second = b; before = t.before; until = omega (arith, t.until); same = same }
    ]
