-- Numbers and constants, digit by digit.
use Rattle.std.proofs.Common.{◌≡◌, ℕ, zero, suc, ℤ, pos, negsuc, ◌+◌, ◌-◌, ◌*◌, ◌/◌, ◌%◌, ◌^◌, ◌<◌, ◌≤◌, Bool, true, false, List, [], ◌∷◌, ◌++◌, length, map, take, drop, get_or, refl, sym, ap, subst, ◌∙◌, arith, length-append, length-drop, add-one}
use Rattle.std.specs.Prelude.{replicate, nat_lt, decimal}
use Rattle.std.specs.Fmt.{signed_decimal}
use lib.Signed.{mag}
use Rattle.std.proofs.lemmas.Bool.{lt-ltb, le-ltb, ltb-true, ltb-false}
use Rattle.std.proofs.lemmas.Fmt.{decimal_by_steps}
use Rattle.std.proofs.lemmas.List.{length-map, length-replicate, take_more, take_all, drop-map}
use Rattle.std.proofs.Math.Seq.{take-nil}
use Rattle.rtlil_lex.specs.declared.token.Digit.{Digit}
use Rattle.rtlil_lex.specs.declared.token.Token.TheVariants as token
use Rattle.rtlil_lex.specs.Values.{value_from, value_of, digit_of, filler, fit, constant_token}
use Rattle.rtlil_lex.specs.Limits.{widest_constant, over, limited}
use Rattle.rtlil_lex.specs.Spelling.{numeral_in, numeral, signed_numeral}

pub value_push : (n : ℕ) (bs : List ℕ) (b : ℕ) → value_from n (bs ++ b ∷ []) ≡ 10 * value_from n bs + (b - 48)
unfolding value_from
value_push n [] b = refl
value_push n (a ∷ bs) b = value_push (10 * n + (a - 48)) bs b

-- the value of one digit more
pub value_more : (bs : List ℕ) (i : ℕ) → i < length bs → value_of (take (i + 1) bs) ≡ 10 * value_of (take i bs) + (get_or bs i 0 - 48)
value_more bs i h = ap value_of (take_more bs i 0 h) ∙ value_push 0 (take i bs) (get_or bs i 0)

pub value_none : value_of [] ≡ 0
unfolding value_from
value_none = refl

-- digits are fitted before or after they are read
pub fit_read : (width : ℕ) (bs : List ℕ) → fit width (map digit_of bs) ≡ replicate (width - length bs) (filler (map digit_of bs)) ++ map digit_of (drop (length bs - width) bs)
unfolding fit
fit_read width bs = simp (length-map, drop-map)

-- what an empty list is filled up to
filled : (n m : ℕ) (d : Digit) (xs : List Digit) → xs ≡ [] → m ≡ 0 → take n xs ++ replicate (n - m) d ≡ replicate n d
filled n m d xs e h = let all : n - m ≡ n = omega arith in rw (e, all, take-nil {A = Digit} n) refl

rest_is : (s : ℕ) (bs : List ℕ) → take (length bs - s) (drop s bs) ≡ drop s bs
rest_is s bs = take_all (length bs - s) (drop s bs) (omega (arith, length-drop s bs))

pub fitted : (width missing surplus none : ℕ) (bs : List ℕ) (d : Digit) (xs : List Digit) → xs ≡ [] → none ≡ 0 → missing ≡ width - length bs → surplus ≡ length bs - width → d ≡ filler (map digit_of bs)
    → (take missing xs ++ replicate (missing - none) d) ++ map digit_of (take (length bs - surplus) (drop surplus bs)) ≡ fit width (map digit_of bs)
fitted width missing surplus none bs d xs e h m s f = rw (filled missing none d xs e h, rest_is surplus bs, m, s, f) (sym (fit_read width bs))

-- ---- numbers in decimal

numeral_by : (k j n : ℕ) (b : Bool) → nat_lt n 10 ≡ b → (b ≡ false → numeral_in k (n / 10) ≡ numeral_in j (n / 10)) → numeral_in (suc k) n ≡ numeral_in (suc j) n
unfolding numeral_in
numeral_by k j n true e h = rw e refl
numeral_by k j n false e h = rw (e, h refl) refl

-- room for more digits than the number has changes nothing
numeral_same : (k j n : ℕ) → n < k → n < j → numeral_in k n ≡ numeral_in j n
numeral_same zero j n p q = absurd (omega arith)
numeral_same (suc k) zero n p q = absurd (omega arith)
numeral_same (suc k) (suc j) n p q =
    numeral_by k j n (nat_lt n 10) refl (λ big. let above : 10 ≤ n = ltb-false n 10 big in let less : n / 10 < n = omega arith in numeral_same k j (n / 10) (omega arith) (omega arith))

pub numeral_digit : (n : ℕ) → n < 10 → numeral n ≡ (48 + n) ∷ []
unfolding numeral numeral_in
numeral_digit n h = let small : nat_lt n 10 ≡ true = lt-ltb n 10 h in rw (add-one n, small) refl

pub numeral_step : (n : ℕ) → 10 ≤ n → numeral n ≡ numeral (n / 10) ++ (48 + n % 10) ∷ []
unfolding numeral numeral_in
numeral_step n h =
    let less : n / 10 < n = omega arith in
    let big : nat_lt n 10 ≡ false = le-ltb n 10 h in
    rw (add-one n, big) (ap (λ (x : List ℕ). x ++ (48 + n % 10) ∷ []) (numeral_same n (n / 10 + 1) (n / 10) less (omega arith)))

steps_by : (P : ℕ → List ℕ → Type 0) (one : (n : ℕ) → n < 10 → P n ((48 + n) ∷ [])) (more : (n : ℕ) (ds : List ℕ) → 10 ≤ n → P (n / 10) ds → P n (ds ++ (48 + n % 10) ∷ [])) (n : ℕ) (b : Bool) → nat_lt n 10 ≡ b → (10 ≤ n → P (n / 10) (numeral (n / 10))) → P n (numeral n)
steps_by P one more n true e h = let lt : n < 10 = ltb-true n 10 e in subst (λ (ds : List ℕ). P n ds) (sym (numeral_digit n lt)) (one n lt)
steps_by P one more n false e h = let above : 10 ≤ n = ltb-false n 10 e in subst (λ (ds : List ℕ). P n ds) (sym (numeral_step n above)) (more n (numeral (n / 10)) above (h above))

steps_in : (P : ℕ → List ℕ → Type 0) (one : (n : ℕ) → n < 10 → P n ((48 + n) ∷ [])) (more : (n : ℕ) (ds : List ℕ) → 10 ≤ n → P (n / 10) ds → P n (ds ++ (48 + n % 10) ∷ [])) (k n : ℕ) → n < k → P n (numeral n)
steps_in P one more zero n lt = absurd (omega arith)
steps_in P one more (suc k) n lt = steps_by P one more n (nat_lt n 10) refl (λ above. let less : n / 10 < n = omega arith in steps_in P one more k (n / 10) (omega arith))

-- what holds of one digit, and of one digit more, holds of each number in decimal
pub numeral_by_steps : (P : ℕ → List ℕ → Type 0) (one : (n : ℕ) → n < 10 → P n ((48 + n) ∷ [])) (more : (n : ℕ) (ds : List ℕ) → 10 ≤ n → P (n / 10) ds → P n (ds ++ (48 + n % 10) ∷ [])) → (n : ℕ) → P n (numeral n)
numeral_by_steps P one more n = steps_in P one more (suc n) n (omega arith)

-- what std prints
pub numeral_decimal : (n : ℕ) → n < 2 ^ 64 → decimal n ≡ numeral n
numeral_decimal n lt = sym (decimal_by_steps (λ n ds. numeral n ≡ ds) numeral_digit (λ n ds h e. numeral_step n h ∙ ap (λ (x : List ℕ). x ++ (48 + n % 10) ∷ []) e) n lt)

pub numeral_signed : (z : ℤ) → mag z < 2 ^ 63 → signed_decimal z ≡ signed_numeral z
numeral_signed (pos n) lt = numeral_decimal n (omega arith)
numeral_signed (negsuc n) lt = ap (λ (x : List ℕ). 45 ∷ x) (numeral_decimal (suc n) (omega arith) ∙ ap numeral (sym (add-one n)))

-- ---- limits

length-fit : (width : ℕ) (ds : List Digit) → length (fit width ds) ≡ width
unfolding fit
length-fit width ds = omega (arith, length-append (replicate (width - length ds) (filler ds)) (drop (length ds - width) ds), length-replicate (width - length ds) (filler ds), length-drop (length ds - width) ds)

pub constant_over : (width : ℕ) (ds : List Digit) → widest_constant < width → limited (constant_token width ds) ≡ over widest_constant
constant_over width ds h = let long : nat_lt widest_constant width ≡ true = lt-ltb widest_constant width h in rw (length-fit width ds, long) refl

pub constant_within : (width : ℕ) (ds : List Digit) → width ≤ widest_constant → limited (constant_token width ds) ≡ token.Digits (fit width ds)
constant_within width ds h = let short : nat_lt widest_constant width ≡ false = le-ltb widest_constant width h in rw (length-fit width ds, short) refl
