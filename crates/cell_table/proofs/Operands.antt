-- The values of a list of bits by their places.
use Rattle.std.proofs.Common.{◌≡◌, ℕ, zero, suc, ◌+◌, ◌*◌, ◌<◌, ◌≤◌, Bool, true, false, ◌&&◌, ◌||◌, cond, List, [], ◌∷◌, length, drop, refl, ap, ◌∙◌, sym, arith, Some, get_or, set, min, subst, ⊎_elim}
use Rattle.std.proofs.lemmas.Bool.{cases_lt}
use Rattle.std.specs.Int.{from_bool}
use Rattle.std.specs.List.{slice_get}
use Rattle.std.proofs.lemmas.List.{at_drop_more}
use Rattle.net_core.specs.declared.bits.Bit.{Bit}
use Rattle.net_core.specs.declared.bits.Bit.TheVariants.{Net}
use Rattle.std.proofs.lemmas.Option.{slice_get-get_or}
use Rattle.net_core.specs.Nodes.{HasNet}
use Rattle.net_core.specs.Values.{Valuation, value_of, values_of, bit_at, number_of}
use Rattle.net_core.specs.Logic.{xor, all_set, some_set, is_odd}

pub length_values_of : (v : Valuation) (bits : List Bit) → length (values_of v bits) ≡ length bits
length_values_of v [] = refl
length_values_of v (b ∷ bs) = ap suc (length_values_of v bs)

-- the value at a place that there is
pub bit_at_here : (v : Valuation) (bits : List Bit) (k : ℕ) (b : Bit) → slice_get bits k ≡ Some b → bit_at (values_of v bits) k ≡ value_of v b
bit_at_here v [] k b h = absurd (cc)
bit_at_here v (x ∷ bs) zero b h = cc
bit_at_here v (x ∷ bs) (suc k) b h = bit_at_here v bs k b h

-- the value of the bit that was read at a place
pub bit_at_read : (v : Valuation) (bits : List Bit) (k : ℕ) (b : Bit) → k < length bits → b ≡ get_or bits k b → bit_at (values_of v bits) k ≡ value_of v b
bit_at_read v [] k b h r = absurd (omega arith)
bit_at_read v (x ∷ bs) zero b h r = ap (value_of v) (sym r)
bit_at_read v (x ∷ bs) (suc k) b h r = bit_at_read v bs k b (omega arith) r

-- the net that was read at a place
pub has_net : (bits : List Bit) (k n : ℕ) (b : Bit) → k < length bits → b ≡ get_or bits k b → b ≡ Net n → HasNet bits n
has_net bits k n b within read is_net = (k, slice_get-get_or bits k b within ∙ ap Some (sym read ∙ is_net))

pub bit_at_past : (xs : List Bool) (k : ℕ) → length xs ≤ k → bit_at xs k ≡ false
bit_at_past [] k h = refl
bit_at_past (x ∷ xs) zero h = absurd (omega arith)
bit_at_past (x ∷ xs) (suc k) h = bit_at_past xs k (omega arith)

-- the bit at a place in the words of the standard library
pub bit_at_is : (xs : List Bool) (k : ℕ) → bit_at xs k ≡ get_or xs k false
bit_at_is [] k = refl
bit_at_is (x ∷ xs) zero = refl
bit_at_is (x ∷ xs) (suc k) = bit_at_is xs k

-- the bits from a place on
pub drop_bit : (xs : List Bool) (k : ℕ) → k < length xs → drop k xs ≡ bit_at xs k ∷ drop (k + 1) xs
drop_bit xs k h = at_drop_more (λ ys. ys) xs k false h ∙ ap (λ x. x ∷ drop (k + 1) xs) (sym (bit_at_is xs k))

pub all_set_drop : (xs : List Bool) (k : ℕ) → k < length xs → all_set (drop k xs) ≡ (bit_at xs k && all_set (drop (k + 1) xs))
all_set_drop xs k h = ap all_set (drop_bit xs k h)

pub some_set_drop : (xs : List Bool) (k : ℕ) → k < length xs → some_set (drop k xs) ≡ (bit_at xs k || some_set (drop (k + 1) xs))
some_set_drop xs k h = ap some_set (drop_bit xs k h)

pub is_odd_drop : (xs : List Bool) (k : ℕ) → k < length xs → is_odd (drop k xs) ≡ xor (bit_at xs k) (is_odd (drop (k + 1) xs))
is_odd_drop xs k h = ap is_odd (drop_bit xs k h)

pub number_of_drop : (xs : List Bool) (k : ℕ) → k < length xs → number_of (drop k xs) ≡ cond (bit_at xs k) 1 0 + 2 * number_of (drop (k + 1) xs)
number_of_drop xs k h = ap number_of (drop_bit xs k h)

-- one bit more of a number that is cut to a greatest one
pub saturated : (n m most sum : ℕ) (b : Bool) → n ≡ min m most → sum ≡ min (min (n * 2) most + cond b 1 0) most → sum ≡ min (cond b 1 0 + 2 * m) most
saturated n m most sum true h r = omega arith
saturated n m most sum false h r = omega arith

from_bool_is : (b : Bool) → from_bool b ≡ cond b 1 0
from_bool_is true = refl
from_bool_is false = refl

pub number_more : (xs : List Bool) (k next n most doubled one sum : ℕ) → k < length xs → k + 1 ≡ next → n ≡ min (number_of (drop next xs)) most → doubled ≡ min (n * 2) most → one ≡ from_bool (bit_at xs k) → sum ≡ min (doubled + one) most → sum ≡ min (number_of (drop k xs)) most
number_more xs k next n most doubled one sum h at e d o r =
    let e' : n ≡ min (number_of (drop (k + 1) xs)) most = e ∙ ap (λ j. min (number_of (drop j xs)) most) (sym at) in
    let r' : sum ≡ min (min (n * 2) most + cond (bit_at xs k) 1 0) most = r ∙ ap (λ x. min (x + one) most) d ∙ ap (λ x. min (min (n * 2) most + x) most) (o ∙ from_bool_is (bit_at xs k)) in
    saturated n (number_of (drop (k + 1) xs)) most sum (bit_at xs k) e' r' ∙ ap (λ m. min m most) (sym (number_of_drop xs k h))

-- an odd number of set bits, one bit after the other
pub xor_step : (odd bit rest : Bool) → xor (xor odd bit) rest ≡ xor odd (xor bit rest)
xor_step true true true = refl
xor_step true true false = refl
xor_step true false true = refl
xor_step true false false = refl
xor_step false true true = refl
xor_step false true false = refl
xor_step false false true = refl
xor_step false false false = refl

pub bit_at_set_same : (xs : List Bool) (i : ℕ) (b : Bool) → i < length xs → bit_at (set xs i b) i ≡ b
bit_at_set_same [] i b h = absurd (omega arith)
bit_at_set_same (x ∷ xs) zero b h = refl
bit_at_set_same (x ∷ xs) (suc i) b h = bit_at_set_same xs i b (omega arith)

pub bit_at_set_other : (xs : List Bool) (i k : ℕ) (b : Bool) → k < i → bit_at (set xs i b) k ≡ bit_at xs k
bit_at_set_other [] i k b h = refl
bit_at_set_other (x ∷ xs) zero k b h = absurd (omega arith)
bit_at_set_other (x ∷ xs) (suc i) zero b h = refl
bit_at_set_other (x ∷ xs) (suc i) (suc k) b h = bit_at_set_other xs i k b (omega arith)

-- one place more is set as it should be
pub filled_more : (P : ℕ → Bool → Type 0) (xs : List Bool) (i : ℕ) (b : Bool) → i < length xs → ((k : ℕ) → k < i → P k (bit_at xs k)) → P i b → (k : ℕ) → k < i + 1 → P k (bit_at (set xs i b) k)
filled_more P xs i b within before here k h = ⊎_elim (λ low. subst (P k) (sym (bit_at_set_other xs i k b low)) (before k low)) (λ high. let e : i ≡ k = omega arith in subst (λ j. P j (bit_at (set xs i b) j)) e (subst (P i) (sym (bit_at_set_same xs i b within)) here)) (cases_lt k i)
