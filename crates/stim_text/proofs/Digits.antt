-- Numbers digit by digit, and the bits of constants.
use Rattle.std.proofs.Common.{◌≡◌, ℕ, zero, suc, ◌+◌, ◌-◌, ◌*◌, ◌<◌, ◌≤◌, Bool, true, false, List, [], ◌∷◌, ◌++◌, length, map, take, get_or, Some, None, refl, sym, ap, ◌∙◌, arith, add-one}
use Rattle.std.specs.Prelude.{not, ◌&&◌, ◌||◌, ◌==◌, nat_lt, reverse, replicate, if◌then◌else◌}
use Rattle.std.specs.List.{list_all}
use Rattle.std.proofs.lemmas.Bool.{and_parts, eqb-true, ltb-true, ltb-false}
use Rattle.std.proofs.lemmas.List.{map-append, reverse-append, replicate_more, length-drop}
use Rattle.std.proofs.lemmas.List.Folds.{list_all-append}
use Rattle.rtlil_lex.specs.declared.token.Digit.{Digit}
use Rattle.rtlil_lex.specs.declared.token.Digit.TheVariants as digit
use Rattle.rtlil_lex.specs.Values.{value_of, digit_of, filler, fit}
use Rattle.rtlil_lex.proofs.Numbers as lexed
use Rattle.stim_text.specs.Spoken.{is_bit, bit_of, bits_of, begins_with_bit, kept, plain_bits}

pub value_more : (bs : List ℕ) (i : ℕ) → i < length bs → value_of (take (i + 1) bs) ≡ 10 * value_of (take i bs) + (get_or bs i 0 - 48)
value_more bs i h = lexed.value_more bs i h

pub value_none : value_of [] ≡ 0
value_none = lexed.value_none

-- ---- digits as bytes

bit_by : (a b c d : Bool) → is_bit (if a then digit.Zero else (if b then digit.One else (if c then digit.Z else (if d then digit.Dash else digit.X)))) ≡ a || b
bit_by true b c d = refl
bit_by false true c d = refl
bit_by false false true d = refl
bit_by false false false true = refl
bit_by false false false false = refl

digit_is_bit : (b : ℕ) → is_bit (digit_of b) ≡ (b == 48 || b == 49)
digit_is_bit b = bit_by (b == 48) (b == 49) (b == 122) (b == 45)

one_by : (a b c d : Bool) → (a ≡ true → b ≡ false) → bit_of (if a then digit.Zero else (if b then digit.One else (if c then digit.Z else (if d then digit.Dash else digit.X)))) ≡ b
one_by true b c d h = sym (h refl)
one_by false true c d h = refl
one_by false false true d h = refl
one_by false false false true h = refl
one_by false false false false h = refl

zero_is_not_one : (b : ℕ) → b == 48 ≡ true → b == 49 ≡ false
zero_is_not_one b e = ap (λ (n : ℕ). n == 49) (eqb-true b 48 e)

digit_is_one : (b : ℕ) → bit_of (digit_of b) ≡ (b == 49)
digit_is_one b = one_by (b == 48) (b == 49) (b == 122) (b == 45) (zero_is_not_one b)

all_bits : (ds : List ℕ) → list_all is_bit (map digit_of ds) ≡ list_all (λ b. b == 48 || b == 49) ds
all_bits [] = refl
all_bits (d ∷ ds) = ap (λ (x : Bool). x && list_all is_bit (map digit_of ds)) (digit_is_bit d) ∙ ap (λ (x : Bool). (d == 48 || d == 49) && x) (all_bits ds)

ones_are : (ds : List ℕ) → map bit_of (map digit_of ds) ≡ map (λ b. b == 49) ds
ones_are [] = refl
ones_are (d ∷ ds) = ap (λ (x : Bool). x ∷ map bit_of (map digit_of ds)) (digit_is_one d) ∙ ap (λ (xs : List Bool). (d == 49) ∷ xs) (ones_are ds)

-- ---- what stands before digits that are too few

filler_first : (x : Digit) (xs : List Digit) → is_bit (filler (x ∷ xs)) ≡ is_bit x
filler_first digit.Zero xs = refl
filler_first digit.One xs = refl
filler_first digit.X xs = refl
filler_first digit.Z xs = refl
filler_first digit.Dash xs = refl

filler_bit : (ds : List ℕ) → is_bit (filler (map digit_of ds)) ≡ begins_with_bit ds
filler_bit [] = refl
filler_bit (d ∷ ds) = filler_first (digit_of d) (map digit_of ds) ∙ digit_is_bit d

filler_zero : (xs : List Digit) → is_bit (filler xs) ≡ true → bit_of (filler xs) ≡ false
filler_zero [] e = refl
filler_zero (digit.Zero ∷ xs) e = refl
filler_zero (digit.One ∷ xs) e = refl
filler_zero (digit.X ∷ xs) e = refl
filler_zero (digit.Z ∷ xs) e = refl
filler_zero (digit.Dash ∷ xs) e = refl

filled_bits : (n : ℕ) (d : Digit) → 0 < n → list_all is_bit (replicate n d) ≡ is_bit d
filled_bits zero d h = absurd (omega arith)
filled_bits (suc zero) d h = and_true (is_bit d)
  where
    and_true : (b : Bool) → (b && true) ≡ b
    and_true true = refl
    and_true false = refl
filled_bits (suc (suc n)) d h = ap (λ (x : Bool). is_bit d && x) (filled_bits (suc n) d (omega arith)) ∙ twice (is_bit d)
  where
    twice : (b : Bool) → (b && b) ≡ b
    twice true = refl
    twice false = refl

filled_ones : (n : ℕ) (d : Digit) → map bit_of (replicate n d) ≡ replicate n (bit_of d)
filled_ones zero d = refl
filled_ones (suc n) d = ap (λ (xs : List Bool). bit_of d ∷ xs) (filled_ones n d)

turned : (n : ℕ) (b : Bool) → reverse (replicate n b) ≡ replicate n b
turned zero b = refl
turned (suc n) b = reverse-append (b ∷ []) (replicate n b) ∙ ap (λ (xs : List Bool). xs ++ b ∷ []) (turned n b) ∙ replicate_more n b ∙ ap (λ (k : ℕ). replicate k b) (add-one n)

filled_zeros : (n : ℕ) (xs : List Digit) → list_all is_bit (replicate n (filler xs)) ≡ true → replicate n (bit_of (filler xs)) ≡ replicate n false
filled_zeros zero xs e = refl
filled_zeros (suc n) xs e = ap (λ (b : Bool). replicate (suc n) b) (filler_zero xs (and_parts (is_bit (filler xs)) (list_all is_bit (replicate n (filler xs))) e).0)

-- ---- together

chosen : (few begins fits filled : Bool) (x y : List Bool) → (few ≡ true → filled ≡ begins) → (few ≡ false → filled ≡ true) → (filled ≡ true → x ≡ y)
    → (if few && not begins then None else (if fits then Some x else None)) ≡ (if filled && fits then Some y else None)
chosen true true true true x y p q r = ap (λ (z : List Bool). Some z) (r refl)
chosen true true false true x y p q r = refl
chosen true true fits false x y p q r = absurd (let k = p refl in cc)
chosen true false fits true x y p q r = absurd (let k = p refl in cc)
chosen true false fits false x y p q r = refl
chosen false begins true true x y p q r = ap (λ (z : List Bool). Some z) (r refl)
chosen false begins false true x y p q r = refl
chosen false begins fits false x y p q r = absurd (let k = q refl in cc)

none_filled : (n : ℕ) (d : Digit) → n ≡ 0 → list_all is_bit (replicate n d) ≡ true
none_filled zero d e = refl
none_filled (suc n) d e = absurd (omega arith)

-- the bits of a constant, and the same by its digits as bytes
module _ (width : ℕ) (ds : List ℕ) where
  abbrev missing : ℕ
  missing = width - length ds

  abbrev fill : Digit
  fill = filler (map digit_of ds)

  parts : fit width (map digit_of ds) ≡ replicate missing fill ++ map digit_of (kept width ds)
  parts = lexed.fit_read width ds

  tested : list_all is_bit (fit width (map digit_of ds)) ≡ (list_all is_bit (replicate missing fill) && list_all (λ b. b == 48 || b == 49) (kept width ds))
  tested = ap (list_all is_bit) parts ∙ list_all-append is_bit (replicate missing fill) (map digit_of (kept width ds)) ∙ ap (λ (b : Bool). list_all is_bit (replicate missing fill) && b) (all_bits (kept width ds))

  as_many : width - length (kept width ds) ≡ missing
  as_many = omega (arith, length-drop (length ds - width) ds)

  spelled : list_all is_bit (replicate missing fill) ≡ true
      → reverse (map (λ b. b == 49) (kept width ds)) ++ replicate (width - length (kept width ds)) false ≡ reverse (map bit_of (fit width (map digit_of ds)))
  spelled e =
      ap (λ (n : ℕ). reverse (map (λ b. b == 49) (kept width ds)) ++ replicate n false) as_many
      ∙ ap (λ (xs : List Bool). reverse (map (λ b. b == 49) (kept width ds)) ++ xs) (sym (filled_zeros missing (map digit_of ds) e) ∙ sym (turned missing (bit_of fill)) ∙ ap reverse (sym (filled_ones missing fill)))
      ∙ ap (λ (xs : List Bool). reverse xs ++ reverse (map bit_of (replicate missing fill))) (sym (ones_are (kept width ds)))
      ∙ sym (reverse-append (map bit_of (replicate missing fill)) (map bit_of (map digit_of (kept width ds))))
      ∙ ap reverse (sym (map-append bit_of (replicate missing fill) (map digit_of (kept width ds))))
      ∙ ap (λ (xs : List Digit). reverse (map bit_of xs)) (sym parts)

  few : nat_lt (length ds) width ≡ true → list_all is_bit (replicate missing fill) ≡ begins_with_bit ds
  few e = let h : length ds < width = ltb-true (length ds) width e in filled_bits missing fill (omega arith) ∙ filler_bit ds

  enough : nat_lt (length ds) width ≡ false → list_all is_bit (replicate missing fill) ≡ true
  enough e = let h : width ≤ length ds = ltb-false (length ds) width e in none_filled missing fill (omega arith)

  pub bits_are : plain_bits width ds ≡ bits_of width (map digit_of ds)
  unfolding plain_bits bits_of
  bits_are =
      chosen (nat_lt (length ds) width) (begins_with_bit ds) (list_all (λ b. b == 48 || b == 49) (kept width ds)) (list_all is_bit (replicate missing fill))
      (reverse (map (λ b. b == 49) (kept width ds)) ++ replicate (width - length (kept width ds)) false) (reverse (map bit_of (fit width (map digit_of ds)))) few enough spelled
      ∙ ap (λ (b : Bool). if b then Some (reverse (map bit_of (fit width (map digit_of ds)))) else None) (sym tested)
