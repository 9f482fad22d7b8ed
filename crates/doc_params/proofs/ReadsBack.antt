-- What is written is kept again.
use Rattle.std.proofs.Common.{◌≡◌, ℕ, ◌+◌, ◌*◌, ◌/◌, ◌%◌, ◌^◌, ◌<◌, Bool, true, false, ◌&&◌, cond, List, [], ◌∷◌, map, length, Option, Some, None, refl, ap, ◌∙◌, sym, arith}
use Rattle.std.specs.Prelude.{nat_eq, nat_lt, reverse, if◌then◌else◌}
use Rattle.std.specs.Int.{w32, cast_unsigned, cast_signed}
use Rattle.std.specs.List.{list_all}
use Rattle.std.proofs.lemmas.List.{reverse-reverse}
use Rattle.std.proofs.lemmas.Option.{same_Some}
use Rattle.net_core.specs.Values.{tri_of}
use Rattle.std.proofs.lemmas.Int.{of_z-to_z}
use Rattle.std.proofs.lemmas.Bool.Decides.{nat_tests}
use Rattle.lib_core.specs.declared.library.Tri.{Tri}
use Rattle.lib_core.specs.declared.library.Tri.TheVariants as tri
use Rattle.rtlil_text.specs.declared.doc.DocConst.TheVariants as const
use Rattle.net_core.specs.Valid.{is_one_digit}
use Rattle.cell_consts.specs.Consts.{is_known, low_bit, low_bits, value_of, number_of_bits, bits_attr}
use Rattle.doc_params.specs.Docs.{digit_bit, bit_digit, digits_of, number_or_digits, const_of_bits, attr, AttrReadsBack, AttrIsPlain}

and_left : (a b : Bool) → (a && b) ≡ true → a ≡ true
and_left true b h = refl
and_left false b h = h

and_right : (a b : Bool) → (a && b) ≡ true → b ≡ true
and_right true b h = h
and_right false b h = absurd (cc)

-- ---- digits

digit_back : (bits : List Tri) → map digit_bit (map bit_digit bits) ≡ bits
digit_back [] = refl
digit_back (tri.Zero ∷ bs) = ap (λ ts. tri.Zero ∷ ts) (digit_back bs)
digit_back (tri.One ∷ bs) = ap (λ ts. tri.One ∷ ts) (digit_back bs)
digit_back (tri.Any ∷ bs) = ap (λ ts. tri.Any ∷ ts) (digit_back bs)

digits_back : (bits : List Tri) → map digit_bit (reverse (reverse (map bit_digit bits))) ≡ bits
digits_back bits = ap (map digit_bit) (reverse-reverse (map bit_digit bits)) ∙ digit_back bits

-- ---- numbers

lowest : (b : Bool) (n : ℕ) → nat_eq (n % 2) 1 ≡ b → low_bit n ≡ tri_of b
lowest b n h = ap tri_of h

low_back : (b : Tri) (v n : ℕ) → is_known b ≡ true → n ≡ cond (is_one_digit b) 1 0 + 2 * v → low_bit n ≡ b
low_back tri.Zero v n h e = let even : nat_eq (n % 2) 1 ≡ false = grind (arith, nat_tests) in lowest false n even
low_back tri.One v n h e = let odd : nat_eq (n % 2) 1 ≡ true = grind (arith, nat_tests) in lowest true n odd
low_back tri.Any v n h e = absurd (cc)

half_back : (b : Bool) (v n : ℕ) → n ≡ cond b 1 0 + 2 * v → n / 2 ≡ v
half_back true v n e = omega arith
half_back false v n e = omega arith

value_back : (bits : List Tri) → list_all is_known bits ≡ true → low_bits (length bits) (value_of bits) ≡ bits
unfolding low_bits
value_back [] h = refl
value_back (b ∷ bs) h =
    let n : ℕ = value_of (b ∷ bs) in
    let first : low_bit n ≡ b = low_back b (value_of bs) n (and_left _ _ h) refl in
    let rest : low_bits (length bs) (n / 2) ≡ bs = ap (low_bits (length bs)) (half_back (is_one_digit b) (value_of bs) n refl) ∙ value_back bs (and_right (is_known b) _ h) in
    λ i. first i ∷ rest i

-- what is known where there is a number
record IsNumber (bits : List Tri) (n : ℕ) : Type 0 where
  known : list_all is_known bits ≡ true
  value : value_of bits ≡ n
  fits : n < 2 ^ 32

is_number : (known fits : Bool) (bits : List Tri) (n : ℕ) → list_all is_known bits ≡ known → nat_lt (value_of bits) (2 ^ 32) ≡ fits → (if known && fits then Some (value_of bits) else None) ≡ Some n → IsNumber bits n
is_number true true bits n k f e =
    let v : value_of bits ≡ n = same_Some _ _ e in
    record { known = k; value = v; fits = grind (arith, nat_tests) }
is_number true false bits n k f e = absurd (cc)
is_number false fits bits n k f e = absurd (cc)

number_back : (bits : List Tri) (n : ℕ) → length bits ≡ 32 → number_of_bits bits ≡ Some n → low_bits 32 (cast_unsigned w32 (cast_signed w32 n)) ≡ bits
unfolding number_of_bits
number_back bits n l e =
    let h = is_number _ _ bits n refl refl e in
    ap (low_bits 32) (of_z-to_z w32 n h.fits ∙ sym h.value) ∙ (λ i. low_bits (sym l i) (value_of bits)) ∙ value_back bits h.known

-- ---- attributes

back_by : (name : List ℕ) (number : Option ℕ) (bits : List Tri) → length bits ≡ 32 → number_of_bits bits ≡ number → attr name (number_or_digits number bits) ≡ bits_attr name bits
back_by name None bits l e = ap (bits_attr name) (digits_back bits)
back_by name (Some n) bits l e = ap (bits_attr name) (number_back bits n l e)

bits_back : (name : List ℕ) (wide : Bool) (bits : List Tri) → nat_eq (length bits) 32 ≡ wide → attr name (if wide then number_or_digits (number_of_bits bits) bits else digits_of bits) ≡ bits_attr name bits
bits_back name true bits h = let l : length bits ≡ 32 = grind (arith, nat_tests) in back_by name (number_of_bits bits) bits l refl
bits_back name false bits h = ap (bits_attr name) (digits_back bits)

attr_by : (name value : List ℕ) (text : Bool) (bits : List Tri) → (text ≡ true → bits ≡ []) → (text ≡ false → value ≡ []) → attr name (if text then const.Text value else const_of_bits bits) ≡ record { name = name; is_text = text; value = value; bits = bits }
unfolding const_of_bits
attr_by name value true bits none empty = λ i. record { name = name; is_text = true; value = value; bits = sym (none refl) i }
attr_by name value false bits none empty = bits_back name (nat_eq (length bits) 32) bits refl ∙ (λ i. record { name = name; is_text = false; value = sym (empty refl) i; bits = bits })

pub attr_reads_back : AttrReadsBack
attr_reads_back a plain = attr_by a.name a.value a.is_text a.bits plain.bits plain.value

pub attr_is_plain : AttrIsPlain
attr_is_plain name (const.Digits ds) = record { bits = λ h. absurd (cc); value = λ h. refl }
attr_is_plain name (const.Number z) = record { bits = λ h. absurd (cc); value = λ h. refl }
attr_is_plain name (const.Text bs) = record { bits = λ h. refl; value = λ h. absurd (cc) }
