-- Numbers by their bits: sums, differences and comparisons, one bit after the other from the low end.
use Rattle.std.proofs.Common.{◌≡◌, ℕ, zero, suc, ◌+◌, ◌-◌, ◌*◌, ◌/◌, ◌%◌, ◌^◌, ◌<◌, ◌≤◌, Bool, true, false, ◌&&◌, not, cond, List, length, map, refl, ap, ◌∙◌, sym, arith, subst, set, length-set}
use Rattle.cell_table.proofs.Operands.{filled_more}
use Rattle.std.specs.Prelude.{nat_eq, nat_lt, max}
use Rattle.std.specs.List.{range_with_len}
use Rattle.std.proofs.lemmas.Bool.Decides.{nat_tests}
use Rattle.std.proofs.Math.Nat.{pow-succ'}
use mathlib.Core.Bool.{beq}
use Rattle.std.proofs.Common.{eq-eqb, zero-add, add-zero}
use Rattle.std.proofs.lemmas.Nat.{div-add-mod', mod-mul-add, mod_below, pow_pos}
use Rattle.std.proofs.lemmas.Nat.Bits.{bit_at-suc}
use Rattle.net_core.specs.Values.{bit_at, number_of, nat_bit, same_bool}
use Rattle.net_core.specs.Logic.{xor, extended, number_at, order_number, is_less}

-- a bit as a number
abbrev pub worth : Bool → ℕ
worth b = cond b 1 0

-- the number whose bits are those of so many places, from a place on
abbrev pub number_from : (ℕ → Bool) → ℕ → ℕ → ℕ
number_from f at len = number_of (map f (range_with_len at len))

-- the low bit, and the rest
pub number_from_step : (f : ℕ → Bool) (width at : ℕ) → at < width → number_from f at (width - at) ≡ worth (f at) + 2 * number_from f (at + 1) (width - (at + 1))
number_from_step f width at h =
    let e : width - at ≡ suc (width - (at + 1)) = omega arith in
    ap (number_from f at) e

pub number_from_end : (f : ℕ → Bool) (width at : ℕ) → width ≤ at → number_from f at (width - at) ≡ 0
number_from_end f width at h =
    let e : width - at ≡ 0 = omega arith in
    ap (number_from f at) e

whole : (f : ℕ → Bool) (width : ℕ) → number_from f 0 (width - 0) ≡ number_from f 0 width
whole f width = let e : width - 0 ≡ width = omega arith in ap (number_from f 0) e

pub nat_bit_zero : (n rest : ℕ) (b : Bool) → n ≡ worth b + 2 * rest → nat_bit n 0 ≡ b
nat_bit_zero n rest true h = let e : n / 2 ^ 0 % 2 ≡ 1 = omega arith in ap (λ x. nat_eq x 1) e
nat_bit_zero n rest false h = let e : n / 2 ^ 0 % 2 ≡ 0 = omega arith in ap (λ x. nat_eq x 1) e

pub nat_bit_suc : (n rest j : ℕ) (b : Bool) → n ≡ worth b + 2 * rest → nat_bit n (suc j) ≡ nat_bit rest j
nat_bit_suc n rest j true h = let e : n / 2 ≡ rest = omega arith in ap (λ x. nat_eq x 1) (bit_at-suc n j) ∙ ap (λ x. nat_bit x j) e
nat_bit_suc n rest j false h = let e : n / 2 ≡ rest = omega arith in ap (λ x. nat_eq x 1) (bit_at-suc n j) ∙ ap (λ x. nat_bit x j) e

-- the sum of two bits and what is carried
pub sum_step : (x y c : Bool) (p q : ℕ) → (worth x + 2 * p) + (worth y + 2 * q) + worth c ≡ worth (xor (xor x y) c) + 2 * (p + q + worth (cond (same_bool x y) x c))
sum_step true true true p q = omega arith
sum_step true true false p q = omega arith
sum_step true false true p q = omega arith
sum_step true false false p q = omega arith
sum_step false true true p q = omega arith
sum_step false true false p q = omega arith
sum_step false false true p q = omega arith
sum_step false false false p q = omega arith

-- a number and the one with the opposite bits
pub opposite : (f : ℕ → Bool) (at len : ℕ) → number_from f at len + number_from (λ k. xor (f k) true) at len + 1 ≡ 2 ^ len
opposite f at zero = refl
opposite f at (suc len) = opposite_step (f at) _ _ _ (opposite f (at + 1) len) ∙ sym (pow-succ' 2 len)
  where
    opposite_step : (b : Bool) (p q r : ℕ) → p + q + 1 ≡ r → (worth b + 2 * p) + (worth (xor b true) + 2 * q) + 1 ≡ 2 * r
    opposite_step true p q r h = omega arith
    opposite_step false p q r h = omega arith

pub same_step : (x y : Bool) (p q : ℕ) → nat_eq (worth x + 2 * p) (worth y + 2 * q) ≡ (same_bool x y && nat_eq p q)
same_step true true p q = grind (arith, nat_tests)
same_step true false p q = grind (arith, nat_tests)
same_step false true p q = grind (arith, nat_tests)
same_step false false p q = grind (arith, nat_tests)

-- the higher bits decide, and where they are alike the lower ones
pub less_step : (x y less : Bool) (p q : ℕ) → nat_lt (worth x + 2 * p) (worth y + 2 * q + worth less) ≡ nat_lt p (q + worth (cond (same_bool x y) less y))
less_step true true true p q = grind (arith, nat_tests)
less_step true true false p q = grind (arith, nat_tests)
less_step true false true p q = grind (arith, nat_tests)
less_step true false false p q = grind (arith, nat_tests)
less_step false true true p q = grind (arith, nat_tests)
less_step false true false p q = grind (arith, nat_tests)
less_step false false true p q = grind (arith, nat_tests)
less_step false false false p q = grind (arith, nat_tests)

-- a number whose highest bit stands for its sign, read so that the order is that of numbers
abbrev pub order_bit : Bool → List Bool → ℕ → ℕ → Bool
order_bit signed xs width k = xor (extended signed xs k) (signed && nat_eq (k + 1) width)

mod_step : (b : Bool) (n m : ℕ) → 0 < m → (worth b + 2 * n) % (2 * m) ≡ worth b + 2 * (n % m)
mod_step true n m h =
    let split : worth true + 2 * n ≡ (n / m) * (2 * m) + (worth true + 2 * (n % m)) = omega (arith, div-add-mod' n m) in
    ap (λ x. x % (2 * m)) split ∙ mod-mul-add (n / m) (2 * m) (worth true + 2 * (n % m)) (omega (arith, mod_below n m h))
mod_step false n m h =
    let split : worth false + 2 * n ≡ (n / m) * (2 * m) + (worth false + 2 * (n % m)) = omega (arith, div-add-mod' n m) in
    ap (λ x. x % (2 * m)) split ∙ mod-mul-add (n / m) (2 * m) (worth false + 2 * (n % m)) (omega (arith, mod_below n m h))

xor_false : (b : Bool) → xor b false ≡ b
xor_false true = refl
xor_false false = refl

-- the highest bit is turned
top_turned : (b top : Bool) → top ≡ true → worth (xor b top) + 0 ≡ (worth b + 0 + 1) % 2
top_turned true true h = refl
top_turned false true h = refl
top_turned b false h = absurd (cc)

order_from : (xs : List Bool) (width at len : ℕ) → at + suc len ≡ width → number_from (order_bit true xs width) at (suc len) ≡ (number_from (extended true xs) at (suc len) + 2 ^ len) % 2 ^ suc len
order_from xs width at zero h =
    let e : at + 1 ≡ width = h in
    top_turned (extended true xs at) (nat_eq (at + 1) width) (eq-eqb (at + 1) width e)
order_from xs width at (suc len) h =
    let low : nat_eq (at + 1) width ≡ false = grind (arith, nat_tests) in
    let bit = extended true xs at in
    let rest = number_from (extended true xs) (at + 1) (suc len) in
    let here : order_bit true xs width at ≡ bit = ap (xor bit) low ∙ xor_false bit in
    let next : (at + 1) + suc len ≡ width = omega arith in
    let sums : worth bit + 2 * (rest + 2 ^ len) ≡ worth bit + 2 * rest + 2 ^ suc len = omega (arith, pow-succ' 2 len) in
    ap (λ b. worth b + 2 * number_from (order_bit true xs width) (at + 1) (suc len)) here
    ∙ ap (λ n. worth bit + 2 * n) (order_from xs width (at + 1) len next)
    ∙ sym (mod_step bit (rest + 2 ^ len) (2 ^ suc len) (pow_pos (suc len)))
    ∙ ap (λ x. x % (2 * 2 ^ suc len)) sums
    ∙ ap (λ y. (worth bit + 2 * rest + 2 ^ suc len) % y) (sym (pow-succ' 2 (suc len)))

pub order_number_is : (signed : Bool) (xs : List Bool) (width : ℕ) → number_from (order_bit signed xs width) 0 width ≡ order_number signed xs width
order_number_is false xs width = ap (λ f. number_from f 0 width) (λ i k. xor_false (extended false xs k) i)
order_number_is true xs zero = refl
order_number_is true xs (suc n) =
    let e : n ≡ suc n - 1 = omega arith in
    order_from xs (suc n) 0 n (omega arith) ∙ ap (λ j. (number_from (extended true xs) 0 (suc n) + 2 ^ j) % 2 ^ suc n) e

-- one place more of a test whether numbers are alike
pub same_more : (f g : ℕ → Bool) (width at : ℕ) → at < width → nat_eq (number_from f at (width - at)) (number_from g at (width - at)) ≡ (same_bool (f at) (g at) && nat_eq (number_from f (at + 1) (width - (at + 1))) (number_from g (at + 1) (width - (at + 1))))
same_more f g width at h =
    ap (λ n. nat_eq n (number_from g at (width - at))) (number_from_step f width at h)
    ∙ ap (nat_eq (worth (f at) + 2 * number_from f (at + 1) (width - (at + 1)))) (number_from_step g width at h)
    ∙ same_step (f at) (g at) _ _

pub not_not : (b c : Bool) → not b ≡ not c → b ≡ c
not_not true true h = refl
not_not false false h = refl
not_not true false h = sym h
not_not false true h = sym h

pub same_bool_is : (x y : Bool) → same_bool x y ≡ beq x y
same_bool_is true true = refl
same_bool_is true false = refl
same_bool_is false true = refl
same_bool_is false false = refl

-- where two bits differ the numbers do, and else they are as the rest is
pub same_next : (f g : ℕ → Bool) (x y alike answer : Bool) (width at : ℕ) → at < width → x ≡ f at → y ≡ g at → beq x y ≡ alike → nat_eq (number_from f at (width - at)) (number_from g at (width - at)) ≡ answer → (alike && nat_eq (number_from f (at + 1) (width - (at + 1))) (number_from g (at + 1) (width - (at + 1)))) ≡ answer
same_next f g x y alike answer width at h here there same before =
    let rest = nat_eq (number_from f (at + 1) (width - (at + 1))) (number_from g (at + 1) (width - (at + 1))) in
    let e : alike ≡ same_bool (f at) (g at) = sym (ap (λ b. same_bool b (g at)) (sym here) ∙ ap (same_bool x) (sym there) ∙ same_bool_is x y ∙ same) in
    ap (λ b. b && rest) e ∙ sym (same_more f g width at h) ∙ before

-- one place more of a comparison
pub less_more : (f g : ℕ → Bool) (less : Bool) (width at : ℕ) → at < width → nat_lt (number_from f at (width - at)) (number_from g at (width - at) + worth less) ≡ nat_lt (number_from f (at + 1) (width - (at + 1))) (number_from g (at + 1) (width - (at + 1)) + worth (cond (same_bool (f at) (g at)) less (g at)))
less_more f g less width at h =
    ap (λ n. nat_lt n (number_from g at (width - at) + worth less)) (number_from_step f width at h)
    ∙ ap (λ n. nat_lt (worth (f at) + 2 * number_from f (at + 1) (width - (at + 1))) (n + worth less)) (number_from_step g width at h)
    ∙ less_step (f at) (g at) less _ _

pub less_end : (f g : ℕ → Bool) (less : Bool) (width at : ℕ) → width ≤ at → nat_lt (number_from f at (width - at)) (number_from g at (width - at) + worth less) ≡ less
less_end f g true width at h = ap (λ n. nat_lt n (number_from g at (width - at) + 1)) (number_from_end f width at h) ∙ ap (λ n. nat_lt 0 (n + 1)) (number_from_end g width at h)
less_end f g false width at h = ap (λ n. nat_lt n (number_from g at (width - at) + 0)) (number_from_end f width at h) ∙ ap (λ n. nat_lt 0 (n + 0)) (number_from_end g width at h)

pub less_start : (signed : Bool) (a b : List Bool) (width : ℕ) → max (length a) (length b) ≡ width → nat_lt (number_from (order_bit signed a width) 0 (width - 0)) (number_from (order_bit signed b width) 0 (width - 0) + 0) ≡ is_less signed a b
less_start signed a b width h =
    let left : number_from (order_bit signed a width) 0 (width - 0) ≡ order_number signed a width = whole (order_bit signed a width) width ∙ order_number_is signed a width in
    let right : number_from (order_bit signed b width) 0 (width - 0) ≡ order_number signed b width = whole (order_bit signed b width) width ∙ order_number_is signed b width in
    let right' : number_from (order_bit signed b width) 0 (width - 0) + 0 ≡ order_number signed b width = omega (arith, right) in
    ap (λ n. nat_lt n (number_from (order_bit signed b width) 0 (width - 0) + 0)) left
    ∙ ap (nat_lt (order_number signed a width)) right'
    ∙ ap (λ w. nat_lt (order_number signed a w) (order_number signed b w)) (sym h)

pub less_next : (f g : ℕ → Bool) (x y less next answer : Bool) (width at : ℕ) → at < width → x ≡ f at → y ≡ g at → next ≡ cond (beq x y) less y → nat_lt (number_from f at (width - at)) (number_from g at (width - at) + worth less) ≡ answer → nat_lt (number_from f (at + 1) (width - (at + 1))) (number_from g (at + 1) (width - (at + 1)) + worth next) ≡ answer
less_next f g x y less next answer width at h here there step before =
    let p = number_from f (at + 1) (width - (at + 1)) in
    let q = number_from g (at + 1) (width - (at + 1)) in
    let e : next ≡ cond (same_bool (f at) (g at)) less (g at) = step ∙ ap (λ b. cond b less y) (sym (same_bool_is x y) ∙ ap (λ b. same_bool b y) here ∙ ap (same_bool (f at)) there) ∙ ap (cond (same_bool (f at) (g at)) less) there in
    ap (λ b. nat_lt p (q + worth b)) e ∙ sym (less_more f g less width at h) ∙ before

-- the bit of an ordered number, from the bit of the operand
pub order_bit_is : (signed x : Bool) (xs : List Bool) (width at : ℕ) → x ≡ extended signed xs at → not (beq x (signed && nat_eq (at + 1) width)) ≡ order_bit signed xs width at
order_bit_is signed x xs width at h = ap not (sym (same_bool_is x (signed && nat_eq (at + 1) width))) ∙ ap (λ b. xor b (signed && nat_eq (at + 1) width)) h

-- a sum or a difference of operands of a width
abbrev pub total : Bool → Bool → List Bool → List Bool → ℕ → ℕ
total signed subtract a b width = number_at signed a width + cond subtract (2 ^ width - number_at signed b width) (number_at signed b width)

-- the bits that are added: those of the second operand, or the opposite ones
abbrev pub added_bit : Bool → Bool → List Bool → ℕ → Bool
added_bit signed subtract b k = xor (extended signed b k) subtract

pub added_bit_is : (signed subtract y : Bool) (b : List Bool) (at : ℕ) → y ≡ extended signed b at → not (beq y subtract) ≡ added_bit signed subtract b at
added_bit_is signed subtract y b at h = ap not (sym (same_bool_is y subtract)) ∙ ap (λ x. xor x subtract) h

-- what is still to be added from a place on
abbrev pub left_from : (ℕ → Bool) → (ℕ → Bool) → Bool → ℕ → ℕ → ℕ
left_from f g carry at width = number_from f at (width - at) + number_from g at (width - at) + worth carry

sum_split : (f g : ℕ → Bool) (carry : Bool) (width at : ℕ) → at < width → left_from f g carry at width ≡ worth (xor (xor (f at) (g at)) carry) + 2 * left_from f g (cond (same_bool (f at) (g at)) (f at) carry) (at + 1) width
sum_split f g carry width at h =
    ap (λ n. n + number_from g at (width - at) + worth carry) (number_from_step f width at h)
    ∙ ap (λ n. worth (f at) + 2 * number_from f (at + 1) (width - (at + 1)) + n + worth carry) (number_from_step g width at h)
    ∙ sum_step (f at) (g at) carry _ _

pub sum_start : (signed subtract : Bool) (a b : List Bool) (width j : ℕ) → nat_bit (left_from (extended signed a) (added_bit signed subtract b) subtract 0 width) j ≡ nat_bit (total signed subtract a b width) (0 + j)
sum_start signed subtract a b width j = ap (λ n. nat_bit n j) (sum_whole signed subtract a b width) ∙ ap (nat_bit (total signed subtract a b width)) (sym (zero-add j))
  where
    difference : (a b opposite power : ℕ) → b + opposite + 1 ≡ power → a + opposite + 1 ≡ a + (power - b)
    difference a b opposite power h = omega arith

    sum_whole : (signed subtract : Bool) (a b : List Bool) (width : ℕ) → left_from (extended signed a) (added_bit signed subtract b) subtract 0 width ≡ total signed subtract a b width
    sum_whole signed false a b width =
        let left : number_from (extended signed a) 0 (width - 0) ≡ number_at signed a width = whole (extended signed a) width in
        let same : number_from (added_bit signed false b) 0 (width - 0) ≡ number_at signed b width = whole (added_bit signed false b) width ∙ ap (λ f. number_from f 0 width) (λ i k. xor_false (extended signed b k) i) in
        let is : total signed false a b width ≡ number_at signed a width + number_at signed b width = refl in
        ap (λ n. n + number_from (added_bit signed false b) 0 (width - 0) + 0) left ∙ ap (λ n. number_at signed a width + n + 0) same ∙ add-zero (number_at signed a width + number_at signed b width) ∙ sym is
    sum_whole signed true a b width =
        let left : number_from (extended signed a) 0 (width - 0) ≡ number_at signed a width = whole (extended signed a) width in
        let right : number_from (added_bit signed true b) 0 (width - 0) ≡ number_from (added_bit signed true b) 0 width = whole (added_bit signed true b) width in
        let both : number_at signed b width + number_from (added_bit signed true b) 0 width + 1 ≡ 2 ^ width = opposite (extended signed b) 0 width in
        ap (λ n. n + number_from (added_bit signed true b) 0 (width - 0) + 1) left ∙ ap (λ n. number_at signed a width + n + 1) right ∙ difference (number_at signed a width) (number_at signed b width) (number_from (added_bit signed true b) 0 width) (2 ^ width) both

-- the bit of the sum at a place
pub sum_bit : (f g : ℕ → Bool) (x y carry bit : Bool) (sum width at : ℕ) → at < width → x ≡ f at → y ≡ g at → bit ≡ not (beq (not (beq x y)) carry) → ((j : ℕ) → nat_bit (left_from f g carry at width) j ≡ nat_bit sum (at + j)) → bit ≡ nat_bit sum at
sum_bit f g x y carry bit sum width at h here there is before =
    let e : bit ≡ xor (xor (f at) (g at)) carry =
    is ∙ ap not (sym (same_bool_is (not (beq x y)) carry)) ∙ ap (λ b. xor (not b) carry) (sym (same_bool_is x y)) ∙ ap (λ b. xor (xor b y) carry) here ∙ ap (λ b. xor (xor (f at) b) carry) there in
    e ∙ sym (nat_bit_zero _ _ _ (sum_split f g carry width at h)) ∙ before 0 ∙ ap (nat_bit sum) (add-zero at)

-- the rest of the sum
pub sum_rest : (f g : ℕ → Bool) (x y carry next : Bool) (sum width at : ℕ) → at < width → x ≡ f at → y ≡ g at → next ≡ cond (beq x y) x carry → ((j : ℕ) → nat_bit (left_from f g carry at width) j ≡ nat_bit sum (at + j)) → (j : ℕ) → nat_bit (left_from f g next (at + 1) width) j ≡ nat_bit sum (at + 1 + j)
sum_rest f g x y carry next sum width at h here there is before j =
    let e : next ≡ cond (same_bool (f at) (g at)) (f at) carry = is ∙ ap (λ b. cond b x carry) (sym (same_bool_is x y) ∙ ap (λ b. same_bool b y) here ∙ ap (same_bool (f at)) there) ∙ ap (λ b. cond (same_bool (f at) (g at)) b carry) here in
    let place : at + suc j ≡ at + 1 + j = omega arith in
    ap (λ b. nat_bit (left_from f g b (at + 1) width) j) e ∙ sym (nat_bit_suc _ _ j _ (sum_split f g carry width at h)) ∙ before (suc j) ∙ ap (nat_bit sum) place

-- one place more of a sum
pub sum_more : (signed subtract x y carry next bit : Bool) (a b out : List Bool) (at : ℕ) → at < length out → x ≡ extended signed a at → y ≡ extended signed b at
    → bit ≡ not (beq (not (beq x (not (beq y subtract)))) carry) → next ≡ cond (beq x (not (beq y subtract))) x carry
    → ((k : ℕ) → k < at → bit_at out k ≡ nat_bit (total signed subtract a b (length out)) k)
    → ((j : ℕ) → nat_bit (left_from (extended signed a) (added_bit signed subtract b) carry at (length out)) j ≡ nat_bit (total signed subtract a b (length out)) (at + j))
    → ((k : ℕ) → k < at + 1 → bit_at (set out at bit) k ≡ nat_bit (total signed subtract a b (length (set out at bit))) k)
    × ((j : ℕ) → nat_bit (left_from (extended signed a) (added_bit signed subtract b) next (at + 1) (length (set out at bit))) j ≡ nat_bit (total signed subtract a b (length (set out at bit))) (at + 1 + j))
sum_more signed subtract x y carry next bit a b out at h here there bit_is next_is low rest =
    let f = extended signed a in
    let g = added_bit signed subtract b in
    let z = not (beq y subtract) in
    let there' : z ≡ g at = added_bit_is signed subtract y b at there in
    let sum = total signed subtract a b (length out) in
    let More : ℕ → Type 0 = λ w. ((k : ℕ) → k < at + 1 → bit_at (set out at bit) k ≡ nat_bit (total signed subtract a b w) k) × ((j : ℕ) → nat_bit (left_from f g next (at + 1) w) j ≡ nat_bit (total signed subtract a b w) (at + 1 + j)) in
    subst More (sym (length-set out at bit)) (
      filled_more (λ k v. v ≡ nat_bit sum k) out at bit h low (sum_bit f g x z carry bit sum (length out) at h here there' bit_is rest),
      sum_rest f g x z carry next sum (length out) at h here there' next_is rest,
    )
