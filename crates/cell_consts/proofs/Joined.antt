-- Numbers by their bits, read from the high end.
use Rattle.std.proofs.Common.{◌≡◌, ℕ, zero, suc, ◌+◌, ◌*◌, ◌^◌, ◌<◌, Bool, true, false, ◌&&◌, cond, List, [], ◌∷◌, length, drop, get_or, Option, Some, None, refl, ap, ◌∙◌, sym, arith}
use Rattle.std.specs.Prelude.{nat_lt, option_and_then, if◌then◌else◌}
use Rattle.std.specs.List.{list_all}
use Rattle.std.proofs.lemmas.List.{at_drop_more}
use Rattle.std.proofs.lemmas.Bool.Decides.{nat_tests}
use Rattle.lib_core.specs.declared.library.Tri.{Tri}
use Rattle.net_core.specs.Valid.{is_one_digit}
use Rattle.cell_consts.specs.Consts.{is_known, value_of, number_of_bits, with_low_bit}

-- the number, where there is one, by one bit after the other from the high end
abbrev pub joined : List Tri → Option ℕ
joined [] = Some 0
joined (b ∷ bs) = option_and_then (with_low_bit b) (joined bs)

too_large : (w v : ℕ) (less : Bool) → nat_lt v (2 ^ 32) ≡ false → nat_lt (w + 2 * v) (2 ^ 32) ≡ less → less ≡ false
too_large w v less h e = grind (arith, nat_tests)

joined_step : (kb k small less : Bool) (w v : ℕ) → nat_lt v (2 ^ 32) ≡ small → nat_lt (w + 2 * v) (2 ^ 32) ≡ less
    → option_and_then (λ n. if kb && nat_lt (w + 2 * n) (2 ^ 32) then Some (w + 2 * n) else None) (if k && small then Some v else None) ≡ (if (kb && k) && less then Some (w + 2 * v) else None)
joined_step false false small less w v p q = refl
joined_step false true true less w v p q = refl
joined_step false true false less w v p q = refl
joined_step true false small less w v p q = refl
joined_step true true true less w v p q = ap (λ t. if t then Some (w + 2 * v) else None) q
joined_step true true false less w v p q = ap (λ t. if t then Some (w + 2 * v) else None) (sym (too_large w v less p q))

-- both ways give one number
pub joined_number : (bits : List Tri) → joined bits ≡ number_of_bits bits
unfolding number_of_bits
joined_number [] = refl
joined_number (b ∷ bs) =
    ap (option_and_then (with_low_bit b)) (joined_number bs)
    ∙ joined_step (is_known b) (list_all is_known bs) _ _ (cond (is_one_digit b) 1 0) (value_of bs) refl refl

-- one place lower
pub joined_before : (bits : List Tri) (i j : ℕ) (d : Tri) (n : ℕ) → j < length bits → i ≡ j + 1 → joined (drop i bits) ≡ Some n → joined (drop j bits) ≡ with_low_bit (get_or bits j d) n
joined_before bits i j d n h e p =
    let next : joined (drop (j + 1) bits) ≡ Some n = ap (λ k. joined (drop k bits)) (sym e) ∙ p in
    at_drop_more joined bits j d h ∙ ap (option_and_then (with_low_bit (get_or bits j d))) next

-- no number is found below a place where there is none
none_before : (bits : List Tri) (i : ℕ) → joined (drop i bits) ≡ None → joined bits ≡ None
none_before bits zero h = h
none_before [] (suc i) h = h
none_before (b ∷ bs) (suc i) h = ap (option_and_then (with_low_bit b)) (none_before bs i h)

pub joined_here : (bits : List Tri) (n : ℕ) → joined (drop 0 bits) ≡ Some n → Some n ≡ number_of_bits bits
joined_here bits n h = sym h ∙ joined_number bits

pub joined_nowhere : (bits : List Tri) (i : ℕ) → joined (drop i bits) ≡ None → None ≡ number_of_bits bits
joined_nowhere bits i h = sym (none_before bits i h) ∙ joined_number bits
