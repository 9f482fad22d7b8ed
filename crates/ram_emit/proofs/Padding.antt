-- Values of padded bits, and places in lists of numbers.
use Rattle.std.proofs.Common.{◌≡◌, ℕ, zero, suc, ◌+◌, ◌-◌, ◌*◌, ◌^◌, ◌<◌, ◌≤◌, Bool, true, false, cond, ◌&&◌, List, [], ◌∷◌, ◌++◌, map, length, replicate, get_or, Some, None, refl, sym, ap, ◌∙◌, arith, nat_eq}
use Rattle.std.specs.List.{range_with_len, find}
use Rattle.std.proofs.Math.Nat.{pow-suc}
use Rattle.std.proofs.lemmas.List.FromFn.{map-range_with_len_more}
use Rattle.std.proofs.lemmas.Bool.{eqb-true, eq-eqb}
use Rattle.lib_core.specs.declared.library.Tri.{Tri}
use Rattle.lib_core.specs.declared.library.Tri.TheVariants as tri
use Rattle.lib_core.specs.Rams.{tri_at}
use Rattle.net_core.specs.declared.bits.Bit.{Bit}
use Rattle.net_core.specs.declared.bits.Bit.TheVariants.{Zero as Low, One as High, Net}
use Rattle.net_core.specs.Values.{Valuation, value_of, values_of, number_of, bit_at}
use Rattle.net_core.specs.Ports.{same_bit}
use Rattle.ram_emit.specs.Cell.{padded}

number_low : (v : Valuation) (n : ℕ) → number_of (values_of v (replicate n Low)) ≡ 0
number_low v zero = refl
number_low v (suc n) = omega (arith, number_low v n)

number_behind : (v : Valuation) (xs : List Bit) (n : ℕ) → number_of (values_of v (xs ++ replicate n Low)) ≡ number_of (values_of v xs)
number_behind v [] n = number_low v n
number_behind v (b ∷ xs) n = ap (λ k. cond (value_of v b) 1 0 + 2 * k) (number_behind v xs n)

-- 0 behind an address does not change it
pub number_padded : (v : Valuation) (xs : List Bit) (n : ℕ) → number_of (values_of v (padded xs n)) ≡ number_of (values_of v xs)
number_padded v xs n = number_behind v xs (n - length xs)

one_more : (b : Bool) (n p q : ℕ) → n < p → q ≡ p * 2 → cond b 1 0 + 2 * n < q
one_more true n p q h e = omega (arith, h, e)
one_more false n p q h e = omega (arith, h, e)

pub number_below : (v : Valuation) (xs : List Bit) → number_of (values_of v xs) < 2 ^ length xs
number_below v [] = omega arith
number_below v (b ∷ xs) = one_more (value_of v b) (number_of (values_of v xs)) (2 ^ length xs) (2 ^ suc (length xs)) (number_below v xs) (pow-suc 2 (length xs))

pub value_at : (v : Valuation) (xs : List Bit) (k : ℕ) → k < length xs → bit_at (values_of v xs) k ≡ value_of v (get_or xs k Low)
value_at v [] k h = absurd (omega arith)
value_at v (b ∷ xs) zero h = refl
value_at v (b ∷ xs) (suc k) h = value_at v xs k (omega arith)

pub value_padded : (v : Valuation) (xs ys : List Bit) (k : ℕ) → k < length xs → bit_at (values_of v (xs ++ ys)) k ≡ bit_at (values_of v xs) k
value_padded v [] ys k h = absurd (omega arith)
value_padded v (b ∷ xs) ys zero h = refl
value_padded v (b ∷ xs) ys (suc k) h = value_padded v xs ys k (omega arith)

pub bits_same : (a b : Bit) → same_bit a b ≡ true → a ≡ b
bits_same Low Low h = refl
bits_same Low High h = cc
bits_same Low (Net n) h = cc
bits_same High Low h = cc
bits_same High High h = refl
bits_same High (Net n) h = cc
bits_same (Net n) Low h = cc
bits_same (Net n) High h = cc
bits_same (Net n) (Net k) h = ap Net (eqb-true n k h)

-- a bit of contents that are made place by place
pub made_from : (f : ℕ → Tri) (a n k : ℕ) → k < n → tri_at (map f (range_with_len a n)) k ≡ f (a + k)
made_from f a zero k h = absurd (omega arith)
made_from f a (suc n) zero h = let e : a ≡ a + 0 = omega arith in ap f e
made_from f a (suc n) (suc k) h = let e : a + 1 + k ≡ a + suc k = omega arith in made_from f (a + 1) n k (omega arith) ∙ ap f e

pub made_at : (f : ℕ → Tri) (n k : ℕ) → k < n → tri_at (map f (range_with_len 0 n)) k ≡ f k
made_at f n k h = let e : 0 + k ≡ k = omega arith in made_from f 0 n k h ∙ ap f e

-- the one place of a range that is looked for
found_from : (a n k : ℕ) → a ≤ k → k < a + n → find (λ i. nat_eq i k) (range_with_len a n) ≡ Some k
found_from a zero k low high = absurd (omega arith)
found_from a (suc n) k low high =
    let P : Bool → Type 0 = λ t. nat_eq a k ≡ t → find (λ i. nat_eq i k) (range_with_len a (suc n)) ≡ Some k in
    let f : P (nat_eq a k) = elim (nat_eq a k) as P [
      | true ↦ λ e. let q : a ≡ k = eqb-true a k e in ap (λ t. cond t (Some a) (find (λ i. nat_eq i k) (range_with_len (a + 1) n))) e ∙ ap Some q
      | false ↦ λ e.
          let d : (a ≡ k → ⊥) = λ q. absurd (let z : nat_eq a k ≡ true = eq-eqb a k q in cc) in
          ap (λ t. cond t (Some a) (find (λ i. nat_eq i k) (range_with_len (a + 1) n))) e ∙ found_from (a + 1) n k (grind (arith, d)) (omega arith)
    ] in
    f refl

none_from : (a n : ℕ) → find {X = ℕ} (λ i. false) (range_with_len a n) ≡ None
none_from a zero = refl
none_from a (suc n) = none_from (a + 1) n

pub found : (b : Bool) (n k : ℕ) → k < n → find (λ i. b && nat_eq i k) (range_with_len 0 n) ≡ cond b (Some k) None
found true n k h = found_from 0 n k (omega arith) (omega arith)
found false n k h = none_from 0 n

pub range_more : (a n : ℕ) → range_with_len a (n + 1) ≡ range_with_len a n ++ (a + n) ∷ []
range_more a n = let e : n + 1 ≡ suc n = omega arith in ap (range_with_len a) e ∙ last_of n a
  where
    last_of : (n a : ℕ) → range_with_len a (suc n) ≡ range_with_len a n ++ (a + n) ∷ []
    last_of zero a = let e : a ≡ a + 0 = omega arith in ap (λ x. x ∷ []) e
    last_of (suc n) a = let e : a + 1 + n ≡ a + suc n = omega arith in ap (λ l. a ∷ l) (last_of n (a + 1) ∙ ap (λ x. range_with_len (a + 1) n ++ x ∷ []) e)

pub tri_at_is : (ts : List Tri) (k : ℕ) → tri_at ts k ≡ get_or ts k tri.Any
tri_at_is [] k = refl
tri_at_is (t ∷ ts) zero = refl
tri_at_is (t ∷ ts) (suc k) = tri_at_is ts k

-- one more item of a list that is made place by place
pub range_turn : (f : ℕ → Tri) (i : ℕ) (old new : List Tri) (t : Tri) → old ≡ map f (range_with_len 0 i) → t ≡ f i → new ≡ old ++ t ∷ [] → new ≡ map f (range_with_len 0 (i + 1))
range_turn f i old new t was is put = put ∙ ap (λ ts. ts ++ t ∷ []) was ∙ ap (λ b. map f (range_with_len 0 i) ++ b ∷ []) is ∙ sym (map-range_with_len_more f 0 i i (omega arith))
