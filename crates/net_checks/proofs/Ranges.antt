-- Whether some number of a range is so.
use Rattle.std.proofs.Common.{◌≡◌, inl, inr, ℕ, zero, suc, ◌+◌, ◌-◌, ◌<◌, ◌≤◌, Bool, true, false, ◌||◌, ◌&&◌, List, [], ◌∷◌, refl, sym, ap, ◌∙◌, arith}
use Rattle.std.specs.Prelude.{nat_eq}
use Rattle.std.specs.List.{list_any, range_with_len}
use Rattle.std.proofs.lemmas.Bool.{cases_eq}

pub any_turn : (f : ℕ → Bool) (a n : ℕ) → 0 < n → list_any f (range_with_len a n) ≡ (f a || list_any f (range_with_len (a + 1) (n - 1)))
any_turn f a zero h = absurd (omega arith)
any_turn f a (suc n) h = let e : suc n - 1 ≡ n = omega arith in rw e refl

pub any_none : (f : ℕ → Bool) (a n : ℕ) → n ≤ 0 → list_any f (range_with_len a n) ≡ false
any_none f a zero h = refl
any_none f a (suc n) h = absurd (omega arith)

or_assoc : (a b c : Bool) → a || (b || c) ≡ (a || b) || c
or_assoc true b c = refl
or_assoc false b c = refl

or_false : (a : Bool) → a || false ≡ a
or_false true = refl
or_false false = refl

more_from : (f : ℕ → Bool) (a n : ℕ) → list_any f (range_with_len a (suc n)) ≡ (list_any f (range_with_len a n) || f (a + n))
more_from f a zero = let e : a ≡ a + 0 = omega arith in or_false (f a) ∙ ap f e
more_from f a (suc n) =
    let e : a + 1 + n ≡ a + suc n = omega arith in
    ap (λ b. f a || b) (more_from f (a + 1) n ∙ ap (λ k. list_any f (range_with_len (a + 1) n) || f k) e) ∙ or_assoc (f a) (list_any f (range_with_len (a + 1) n)) (f (a + suc n))

-- one number more
pub any_more : (f : ℕ → Bool) (n : ℕ) → list_any f (range_with_len 0 (n + 1)) ≡ (list_any f (range_with_len 0 n) || f n)
any_more f n =
    let e : n + 1 ≡ suc n = omega arith in
    let z : 0 + n ≡ n = omega arith in
    ap (λ k. list_any f (range_with_len 0 k)) e ∙ more_from f 0 n ∙ ap (λ k. list_any f (range_with_len 0 n) || f k) z

pub any_same_from : (f g : ℕ → Bool) (a n : ℕ) → ((q : ℕ) → a ≤ q → q < a + n → f q ≡ g q) → list_any f (range_with_len a n) ≡ list_any g (range_with_len a n)
any_same_from f g a zero h = refl
any_same_from f g a (suc n) h =
    ap (λ b. b || list_any f (range_with_len (a + 1) n)) (h a (omega arith) (omega arith))
    ∙ ap (λ b. g a || b) (any_same_from f g (a + 1) n (λ q le lt. h q (omega (arith, le)) (omega (arith, lt))))

pub any_same : (f g : ℕ → Bool) (n : ℕ) → ((q : ℕ) → q < n → f q ≡ g q) → list_any f (range_with_len 0 n) ≡ list_any g (range_with_len 0 n)
any_same f g n h = any_same_from f g 0 n (λ q le lt. h q (omega (arith, lt)))

swap : (a b c d : Bool) → (a || b) || (c || d) ≡ (a || c) || (b || d)
swap true b c d = refl
swap false true true d = refl
swap false true false d = refl
swap false false c d = refl

spread : (s a b : Bool) → (s && (a || b)) ≡ ((s && a) || (s && b))
spread true a b = refl
spread false a b = refl

-- either of two
pub any_either : (s f g : ℕ → Bool) (xs : List ℕ) → list_any (λ q. s q && (f q || g q)) xs ≡ (list_any (λ q. s q && f q) xs || list_any (λ q. s q && g q) xs)
any_either s f g [] = refl
any_either s f g (x ∷ xs) =
    ap (λ b. b || list_any (λ q. s q && (f q || g q)) xs) (spread (s x) (f x) (g x)) ∙ ap (λ b. ((s x && f x) || (s x && g x)) || b) (any_either s f g xs)
    ∙ swap (s x && f x) (s x && g x) (list_any (λ q. s q && f q) xs) (list_any (λ q. s q && g q) xs)

differ : (p q : ℕ) → (p ≡ q → ⊥) → nat_eq p q ≡ false
differ p q ne = grind (arith, ne)

same : (p q : ℕ) → p ≡ q → nat_eq p q ≡ true
same p q e = grind (arith, e)

and_false : (a : Bool) → (a && false) ≡ false
and_false true = refl
and_false false = refl

and_true : (a : Bool) → (a && true) ≡ a
and_true true = refl
and_true false = refl

none_before : (s : ℕ → Bool) (p a n : ℕ) → p < a → list_any (λ q. s q && nat_eq p q) (range_with_len a n) ≡ false
none_before s p a zero h = refl
none_before s p a (suc n) h =
    ap (λ b. (s a && b) || list_any (λ q. s q && nat_eq p q) (range_with_len (a + 1) n)) (differ p a (λ e. omega (arith, e, h)))
    ∙ ap (λ b. b || list_any (λ q. s q && nat_eq p q) (range_with_len (a + 1) n)) (and_false (s a)) ∙ none_before s p (a + 1) n (omega (arith, h))

one_from : (s : ℕ → Bool) (p a n : ℕ) → a ≤ p → p < a + n → list_any (λ q. s q && nat_eq p q) (range_with_len a n) ≡ s p
one_from s p a zero le lt = absurd (omega (arith, le, lt))
one_from s p a (suc n) le lt =
    elim (cases_eq p a) [
      | inl e ↦
          ap (λ b. (s a && b) || list_any (λ q. s q && nat_eq p q) (range_with_len (a + 1) n)) (same p a e)
          ∙ ap (λ b. b || list_any (λ q. s q && nat_eq p q) (range_with_len (a + 1) n)) (and_true (s a))
          ∙ ap (λ b. s a || b) (none_before s p (a + 1) n (omega (arith, e))) ∙ or_false (s a) ∙ ap s (sym e)
      | inr ne ↦
          ap (λ b. (s a && b) || list_any (λ q. s q && nat_eq p q) (range_with_len (a + 1) n)) (differ p a ne)
          ∙ ap (λ b. b || list_any (λ q. s q && nat_eq p q) (range_with_len (a + 1) n)) (and_false (s a)) ∙ one_from s p (a + 1) n (omega (arith, le, ne)) (omega (arith, lt))
    ]

-- this number
pub any_one : (s : ℕ → Bool) (p n : ℕ) → p < n → list_any (λ q. s q && nat_eq p q) (range_with_len 0 n) ≡ s p
any_one s p n h = one_from s p 0 n (omega arith) (omega (arith, h))

pub any_never : (s : ℕ → Bool) (xs : List ℕ) → list_any (λ q. s q && false) xs ≡ false
any_never s [] = refl
any_never s (x ∷ xs) = ap (λ b. b || list_any (λ q. s q && false) xs) (and_false (s x)) ∙ any_never s xs
