-- What is written is read again.
use Rattle.std.proofs.Common.{◌≡◌, ℕ, zero, suc, ◌+◌, ◌*◌, ◌/◌, ◌%◌, ◌^◌, ◌<◌, Bool, true, false, ◌&&◌, cond, List, Some, None, refl, ap, ◌∙◌, arith}
use Rattle.std.specs.Prelude.{nat_lt, nat_eq, if◌then◌else◌}
use Rattle.std.specs.List.{list_all}
use Rattle.std.proofs.lemmas.Bool.Decides.{nat_tests}
use Rattle.std.proofs.Math.Nat.{pow-succ'}
use Rattle.net_core.specs.Valid.{is_one_digit}
use Rattle.net_core.specs.Values.{tri_of}
use Rattle.cell_consts.specs.Params.{flag_of_found}
use Rattle.cell_consts.specs.Consts.{is_known, low_bit, low_bits, value_of, number_of_bits, attr_number, number_attr, flag_attr}

known_tri : (b : Bool) → is_known (tri_of b) ≡ true
known_tri true = refl
known_tri false = refl

one_tri : (b : Bool) → is_one_digit (tri_of b) ≡ b
one_tri true = refl
one_tri false = refl

-- each bit is 0 or 1
known_low_bits : (width n : ℕ) → list_all is_known (low_bits width n) ≡ true
unfolding low_bits
known_low_bits zero n = refl
known_low_bits (suc w) n = ap (λ b. b && list_all is_known (low_bits w (n / 2))) (known_tri (nat_eq (n % 2) 1)) ∙ known_low_bits w (n / 2)

lowest : (b : Bool) (n : ℕ) → nat_eq (n % 2) 1 ≡ b → cond (is_one_digit (tri_of b)) 1 0 + 2 * (n / 2) ≡ n
lowest true n h = let odd : n % 2 ≡ 1 = grind (arith, nat_tests) in omega arith
lowest false n h = let even : n % 2 ≡ 0 = grind (arith, nat_tests) in omega arith

half_fits : (w n : ℕ) → n < 2 ^ suc w → n / 2 < 2 ^ w
half_fits w n h = let e : 2 ^ suc w ≡ 2 * 2 ^ w = pow-succ' 2 w in omega arith

value_low_bits : (width n : ℕ) → n < 2 ^ width → value_of (low_bits width n) ≡ n
unfolding low_bits
value_low_bits zero n h = omega arith
value_low_bits (suc w) n h =
    ap (λ v. cond (is_one_digit (low_bit n)) 1 0 + 2 * v) (value_low_bits w (n / 2) (half_fits w n h)) ∙ lowest (nat_eq (n % 2) 1) n refl

found : (known fits : Bool) (v n : ℕ) → known ≡ true → v ≡ n → nat_lt v (2 ^ 32) ≡ fits → n < 2 ^ 32 → (if known && fits then Some v else None) ≡ Some n
found true true v n k e t h = ap (λ m. Some m) e
found true false v n k e t h = absurd (let small : nat_lt v (2 ^ 32) ≡ true = grind (arith, nat_tests) in cc)
found false fits v n k e t h = absurd (cc)

-- a number of 32 bits is that number
pub low_bits_number : (n : ℕ) → n < 2 ^ 32 → number_of_bits (low_bits 32 n) ≡ Some n
unfolding number_of_bits
low_bits_number n h = found (list_all is_known (low_bits 32 n)) _ (value_of (low_bits 32 n)) n (known_low_bits 32 n) (value_low_bits 32 n h) refl h

pub number_attr_number : (name : List ℕ) (n : ℕ) → n < 2 ^ 32 → attr_number (number_attr name n) ≡ Some n
number_attr_number name n h = low_bits_number n h

-- a flag is set where its bit is, as a number too
pub flag_attr_number : (name : List ℕ) (b : Bool) → attr_number (flag_attr name b) ≡ Some (cond b 1 0)
unfolding number_of_bits
flag_attr_number name true = refl
flag_attr_number name false = refl

pub flag_attr_flag : (name : List ℕ) (b : Bool) → flag_of_found (Some (flag_attr name b)) ≡ Some b
flag_attr_flag name true = refl
flag_attr_flag name false = refl
