-- How many rows of choices there are, and that there is one.
use Rattle.std.proofs.Common.{◌≡◌, ℕ, zero, suc, ◌+◌, ◌*◌, ◌≤◌, Bool, true, false, List, [], ◌∷◌, ◌++◌, length, min, nat_lt, refl, sym, ◌∙◌, ap, subst, arith, length-append}
use Rattle.std.proofs.Math.Nat.{min-eq_left, mul-le-mul, mul-zero, zero-mul, suc-mul, one-le-mul}
use Rattle.std.proofs.lemmas.Bool.{ltb-false, le-ltb}
use Rattle.std.proofs.lemmas.Bool.Decides.{nat_tests}
use Rattle.std.proofs.lemmas.List.{length-map}
use Rattle.std.specs.List.{AllByRecursion as Each}
use Rattle.lib_core.specs.declared.library.Choice.{Choice}
use Rattle.lib_judge.specs.Variants.{capped_count, extend, row_with, rows_from}

pub length_row_with : (axis : List Choice) (row : List Choice) → length (row_with axis row) ≡ length axis
length_row_with axis row = length-map axis (λ (c : Choice). row ++ c ∷ [])

turned : (n m : ℕ) → m + n * m ≡ suc n * m
turned n m = omega (arith, suc-mul n m)

pub length_extend : (axis : List Choice) (rows : List (List Choice)) → length (extend rows axis) ≡ length rows * length axis
length_extend axis [] = sym (zero-mul (length axis))
length_extend axis (row ∷ rows) =
    length-append (row_with axis row) (extend rows axis)
    ∙ ap (λ (n : ℕ). n + length (extend rows axis)) (length_row_with axis row)
    ∙ ap (λ (n : ℕ). length axis + n) (length_extend axis rows)
    ∙ turned (length rows) (length axis)

-- ---- as far as 257

capped_small : (a b : ℕ) → a ≤ 257 → b ≤ 257 → min (min a 257 * min b 257) 257 ≡ min (a * b) 257
capped_small a b h k = ap (λ (x : ℕ). min (x * min b 257) 257) (min-eq_left h) ∙ ap (λ (y : ℕ). min (a * y) 257) (min-eq_left k)

capped_large : (p q : ℕ) → 257 ≤ p → 257 ≤ q → min p 257 ≡ min q 257
capped_large p q h k = omega arith

capped_left : (a b : ℕ) → 257 ≤ a → min (min a 257 * min b 257) 257 ≡ min (a * b) 257
capped_left a zero h = ap (λ (x : ℕ). min x 257) (mul-zero (min a 257)) ∙ sym (ap (λ (x : ℕ). min x 257) (mul-zero a))
capped_left a (suc b) h =
    let l : 257 ≤ min a 257 = omega arith in
    let m : 1 ≤ min (suc b) 257 = omega arith in
    let n : 1 ≤ suc b = omega arith in
    capped_large (min a 257 * min (suc b) 257) (a * suc b) (mul-le-mul l m) (mul-le-mul h n)

capped_right : (a b : ℕ) → 257 ≤ b → min (min a 257 * min b 257) 257 ≡ min (a * b) 257
capped_right zero b h = ap (λ (x : ℕ). min x 257) (zero-mul (min b 257)) ∙ sym (ap (λ (x : ℕ). min x 257) (zero-mul b))
capped_right (suc a) b h =
    let l : 1 ≤ min (suc a) 257 = omega arith in
    let m : 257 ≤ min b 257 = omega arith in
    let n : 1 ≤ suc a = omega arith in
    capped_large (min (suc a) 257 * min b 257) (suc a * b) (mul-le-mul l m) (mul-le-mul n h)

above : (a b : ℕ) → nat_lt a b ≡ true → a ≤ b
above a b h = grind (arith, nat_tests)

capped_by : (a b : ℕ) (x y : Bool) → nat_lt 257 a ≡ x → nat_lt 257 b ≡ y → min (min a 257 * min b 257) 257 ≡ min (a * b) 257
capped_by a b false false p q = capped_small a b (ltb-false 257 a p) (ltb-false 257 b q)
capped_by a b true y p q = capped_left a b (above 257 a p)
capped_by a b false true p q = capped_right a b (above 257 b q)

pub capped : (a b : ℕ) → min (min a 257 * min b 257) 257 ≡ min (a * b) 257
capped a b = capped_by a b (nat_lt 257 a) (nat_lt 257 b) refl refl

pub count_is : (n : ℕ) (rows : List (List Choice)) (axes : List (List Choice)) → n ≡ min (length rows) 257 → capped_count n axes ≡ min (length (rows_from rows axes)) 257
unfolding capped_count rows_from
count_is n rows [] h = h
count_is n rows (axis ∷ more) h =
    count_is (min (n * min (length axis) 257) 257) (extend rows axis) more
    (ap (λ (x : ℕ). min (x * min (length axis) 257) 257) h
    ∙ capped (length rows) (length axis)
    ∙ sym (ap (λ (x : ℕ). min x 257) (length_extend axis rows)))

count_of_all : (axes : List (List Choice)) → capped_count 1 axes ≡ min (length (rows_from ([] ∷ []) axes)) 257
count_of_all axes = count_is 1 ([] ∷ []) axes refl

pub few_rows : (axes : List (List Choice)) → nat_lt 256 (capped_count 1 axes) ≡ false → length (rows_from ([] ∷ []) axes) ≤ 256
few_rows axes h = omega (arith, ltb-false 256 (capped_count 1 axes) h, count_of_all axes)

pub few_count : (axes : List (List Choice)) → length (rows_from ([] ∷ []) axes) ≤ 256 → nat_lt 256 (capped_count 1 axes) ≡ false
few_count axes h = le-ltb 256 (capped_count 1 axes) (omega (arith, count_of_all axes))

-- ---- some row

abbrev pub IsSomething : {A : Type 0} → List A → Type 0
IsSomething xs = 1 ≤ length xs

pub some_row : (axes rows : List (List Choice)) → Each IsSomething axes → IsSomething rows → IsSomething (rows_from rows axes)
unfolding rows_from
some_row [] rows h s = s
some_row (axis ∷ more) rows h s =
    some_row more (extend rows axis) h.1 (subst (λ (n : ℕ). 1 ≤ n) (sym (length_extend axis rows)) (one-le-mul s h.0))
