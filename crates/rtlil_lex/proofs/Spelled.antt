-- A token that is printed is read again.
use Rattle.std.proofs.Common.{◌≡◌, ℕ, suc, ℤ, pos, negsuc, ◌+◌, ◌-◌, ◌*◌, ◌/◌, ◌%◌, ◌^◌, ◌<◌, ◌≤◌, Bool, true, false, List, [], ◌∷◌, ◌++◌, length, map, Option, Some, refl, sym, ap, subst, ◌∙◌, append_assoc, arith, add-one}
use Rattle.std.specs.Prelude.{◌==◌, ◌||◌, nat_lt, nat_le, codes}
use Rattle.std.specs.List.{flat_map, list_all}
use Rattle.std.proofs.lemmas.Bool.{lt-ltb, le-ltb, le-leb, leb-true, ltb-true, eqb-true, ne_eqb}
use Rattle.std.proofs.lemmas.List.Folds.{list_all-append}
use Rattle.rtlil_lex.specs.declared.bytes.Start.TheVariants as start
use Rattle.rtlil_lex.specs.declared.token.Digit.{Digit}
use Rattle.rtlil_lex.specs.declared.token.Digit.TheVariants as digit
use Rattle.rtlil_lex.specs.declared.token.Token.{Token}
use Rattle.rtlil_lex.specs.declared.token.Token.TheVariants as token
use Rattle.rtlil_lex.specs.declared.token.Word.{Word}
use Rattle.rtlil_lex.specs.declared.token.Word.TheVariants as word
use Rattle.rtlil_lex.specs.Bytes.{is_visible, is_decimal, is_octal, is_word_byte, is_constant_digit, is_on_line, start_of, Ends}
use Rattle.rtlil_lex.specs.Values.{identifier_token, word_of, value_from, value_of, number_token, negative_token, digit_of, fit, constant_token, octal_byte}
use Rattle.rtlil_lex.specs.Lexes.{Quoted, nothing, plain, escaped, octal_three, goes_on, is_flag}
use Rattle.rtlil_lex.specs.Lex.{next, tokens}
use Rattle.rtlil_lex.specs.Spelling.{numeral, signed_numeral, digit_byte, octal_digits, escape, word_text, spelling, IsIdentifier, IsInt, Fits}
use Rattle.rtlil_lex.proofs.Numbers.{value_push, numeral_by_steps}
use Rattle.rtlil_lex.proofs.Runs.{both, and_is}
use Rattle.rtlil_lex.proofs.Steps.{next_some}
use Rattle.rtlil_lex.proofs.Lexical.{identifier_next, word_next, number_next, negative_next, constant_next, string_next, single_next}

-- what may follow a token so that it ends there
abbrev pub Stops : Token → List ℕ → Type 0
Stops (token.Id n) rest = Ends is_visible rest
Stops (token.Number z) rest = Ends goes_on rest
Stops (token.Digits ds) rest = Ends is_constant_digit rest × Ends is_flag rest
Stops (token.Text t) rest = Unit {0}
Stops (token.Word w) rest = Ends is_word_byte rest
Stops token.OpenBrace rest = Unit {0}
Stops token.CloseBrace rest = Unit {0}
Stops token.OpenBracket rest = Unit {0}
Stops token.CloseBracket rest = Unit {0}
Stops token.Colon rest = Unit {0}
Stops token.Bad rest = Unit {0}
Stops (token.Over seen) rest = Unit {0}

abbrev pub OnLine : List ℕ → Type 0
OnLine bs = list_all is_on_line bs ≡ true

some_token : (t u : Token) (rest : List ℕ) → t ≡ u → ◌≡◌ {A = Option (Token × List ℕ)} (Some (t, rest)) (Some (u, rest))
some_token t u rest e = ap (λ (x : Token). Some (x, rest)) e

-- ---- identifiers

starts_identifier : (c : ℕ) (p q : Bool) → c == 92 ≡ p → c == 36 ≡ q → (p || q) ≡ true → start_of c ≡ start.Identifier
starts_identifier c true q e1 e2 h = ap start_of (eqb-true c 92 e1)
starts_identifier c false true e1 e2 h = ap start_of (eqb-true c 36 e2)
starts_identifier c false false e1 e2 h = absurd cc

identifier_is : (n : List ℕ) → 2 ≤ length n → identifier_token n ≡ token.Id n
identifier_is n long = rw (le-ltb (length n) 2 long) refl

identifier_again : (n rest : List ℕ) → IsIdentifier n → Ends is_visible rest → next (n ++ rest) ≡ Some (token.Id n, rest)
identifier_again [] rest f ends = absurd f.begins
identifier_again (c ∷ run) rest f ends =
    let visible = both (is_visible c) (list_all is_visible run) f.visible in
    identifier_next c run rest (starts_identifier c (c == 92) (c == 36) refl refl f.begins) visible.1 ends ∙ some_token _ _ rest (identifier_is (c ∷ run) f.long)

-- ---- decimal digits

record Spells (n : ℕ) (ds : List ℕ) : Type 0 where
  digits : list_all is_decimal ds ≡ true
  value : value_of ds ≡ n
  some : (c : ℕ) × (cs : List ℕ) × (ds ≡ c ∷ cs)

digit_is : (d : ℕ) → d < 10 → is_decimal (48 + d) ≡ true
digit_is d h = rw (le-leb 48 (48 + d) (omega arith), le-leb (48 + d) 57 (omega arith)) refl

one_digit : (n : ℕ) → n < 10 → Spells n ((48 + n) ∷ [])
unfolding value_from
one_digit n h = record { digits = rw (digit_is n h) refl; value = omega arith; some = (48 + n, [], refl) }

more_digits : (n : ℕ) (ds : List ℕ) → 10 ≤ n → Spells (n / 10) ds → Spells n (ds ++ (48 + n % 10) ∷ [])
more_digits n ds h s =
    let low : n % 10 < 10 = omega arith in
    let before = s.value in
    record {
      digits = rw list_all-append (and_is _ _ s.digits (rw (digit_is (n % 10) low) refl));
      value = value_push 0 ds (48 + n % 10) ∙ (let sum : 10 * value_of ds + (48 + n % 10 - 48) ≡ n = omega arith in sum);
      some = (s.some.0, s.some.1 ++ (48 + n % 10) ∷ [], ap (λ (x : List ℕ). x ++ (48 + n % 10) ∷ []) s.some.2);
    }

spells : (n : ℕ) → Spells n (numeral n)
spells n = numeral_by_steps Spells one_digit more_digits n

starts_decimal : (b : ℕ) → is_decimal b ≡ true → (start_of b ≡ start.Decimal) × (is_on_line b ≡ true)
starts_decimal b h =
    let k = both (nat_le 48 b) (nat_le b 57) h in
    let low : 48 ≤ b = leb-true 48 b k.0 in
    let high : b ≤ 57 = leb-true b 57 k.1 in
    let ne : (v : ℕ) → ((b ≡ v) → ⊥) → (b == v) ≡ false = λ v f. ne_eqb b v f in (
      rw (ne 32 (omega arith), ne 9 (omega arith), ne 13 (omega arith), ne 35 (omega arith), ne 92 (omega arith), ne 36 (omega arith), ne 34 (omega arith), ne 45 (omega arith), k.0, k.1) refl,
      rw (ne 10 (omega arith)) refl,
    )

-- a number in decimal, by its first digit
record Decimals (n : ℕ) (ds : List ℕ) : Type 0 where
  first : ℕ
  run : List ℕ
  is : ds ≡ first ∷ run
  begins : is_decimal first ≡ true
  starts : start_of first ≡ start.Decimal
  all : list_all is_decimal run ≡ true
  value : value_of (first ∷ run) ≡ n

decimals : (n : ℕ) → Decimals n (numeral n)
decimals n =
    let s = spells n in
    let c = s.some.0 in
    let run = s.some.1 in
    let is : numeral n ≡ c ∷ run = s.some.2 in
    let all : list_all is_decimal (c ∷ run) ≡ true = rw is at s.digits in
    let k = both (is_decimal c) (list_all is_decimal run) all in
    record { first = c; run = run; is = is; begins = k.0; starts = (starts_decimal c k.0).0; all = k.1; value = ap value_of (sym is) ∙ s.value }

first_false : (p q : Bool) → (p || q) ≡ false → p ≡ false
first_false true q e = absurd cc
first_false false q e = refl

ends_number : (rest : List ℕ) → Ends goes_on rest → Ends is_decimal rest
ends_number [] h = tt
ends_number (b ∷ rest) h = first_false (is_decimal b) (b == 39) h

number_is : (n : ℕ) → n < 2 ^ 31 → number_token n ≡ token.Number (pos n)
number_is n lt = rw (lt-ltb n (2 ^ 31) lt) refl

negative_is : (n : ℕ) → n < 2 ^ 31 → negative_token (suc n) ≡ token.Number (negsuc n)
negative_is n lt = let le : suc n ≤ 2 ^ 31 = omega arith in rw (le-leb (suc n) (2 ^ 31) le) refl

number_again : (z : ℤ) (rest : List ℕ) → IsInt z → Ends goes_on rest → next (signed_numeral z ++ rest) ≡ Some (token.Number z, rest)
number_again (pos n) rest lt ends =
    let d = decimals n in
    ap (λ (x : List ℕ). next (x ++ rest)) d.is ∙ number_next d.first d.run rest d.starts d.all ends ∙ some_token _ _ rest (ap number_token d.value ∙ number_is n lt)
number_again (negsuc n) rest lt ends =
    let d = decimals (n + 1) in
    ap (λ (x : List ℕ). next (45 ∷ (x ++ rest))) d.is ∙ negative_next d.first d.run rest d.begins d.all (ends_number rest ends) ∙ some_token _ _ rest (ap negative_token (d.value ∙ add-one n) ∙ negative_is n lt)

-- ---- constants

digit_again : (d : Digit) → digit_of (digit_byte d) ≡ d
digit_again digit.Zero = refl
digit_again digit.One = refl
digit_again digit.X = refl
digit_again digit.Z = refl
digit_again digit.Dash = refl

digits_again : (ds : List Digit) → map digit_of (map digit_byte ds) ≡ ds
digits_again [] = refl
digits_again (d ∷ ds) = rw (digit_again d, digits_again ds) refl

is_digit : (d : Digit) → (is_constant_digit (digit_byte d) ≡ true) × (is_flag (digit_byte d) ≡ false) × (is_on_line (digit_byte d) ≡ true)
is_digit digit.Zero = (refl, refl, refl)
is_digit digit.One = (refl, refl, refl)
is_digit digit.X = (refl, refl, refl)
is_digit digit.Z = (refl, refl, refl)
is_digit digit.Dash = (refl, refl, refl)

are_digits : (ds : List Digit) → list_all is_constant_digit (map digit_byte ds) ≡ true
are_digits [] = refl
are_digits (d ∷ ds) = and_is _ _ (is_digit d).0 (are_digits ds)

unflagged : (ds : List Digit) (rest : List ℕ) → Ends is_flag rest → Ends is_flag (map digit_byte ds ++ rest)
unflagged [] rest h = h
unflagged (d ∷ ds) rest h = (is_digit d).1

fit_whole : (ds : List Digit) → fit (length ds) ds ≡ ds
unfolding fit
fit_whole ds = let none : length ds - length ds ≡ 0 = omega arith in rw none refl

constant_is : (ds : List Digit) → constant_token (length ds) ds ≡ token.Digits ds
constant_is ds = rw (fit_whole ds) refl

constant_again : (ds : List Digit) (rest : List ℕ) → Ends is_constant_digit rest → Ends is_flag rest → next ((numeral (length ds) ++ 39 ∷ map digit_byte ds) ++ rest) ≡ Some (token.Digits ds, rest)
constant_again ds rest ends unflag =
    let d = decimals (length ds) in
    let bits = map digit_byte ds in
    let value : constant_token (value_of (d.first ∷ d.run)) (map digit_of bits) ≡ token.Digits ds = rw (d.value, digits_again ds) (constant_is ds) in
    ap next (append_assoc (numeral (length ds)) (39 ∷ bits) rest)
    ∙ ap (λ (x : List ℕ). next (x ++ (39 ∷ (bits ++ rest)))) d.is
    ∙ constant_next d.first d.run bits rest d.starts d.all (are_digits ds) ends (unflagged ds rest unflag)
    ∙ some_token _ _ rest value

-- ---- strings

octal_is : (d : ℕ) → d < 8 → is_octal (48 + d) ≡ true
octal_is d h = rw (le-leb 48 (48 + d) (omega arith), le-leb (48 + d) 55 (omega arith)) refl

small : (b : ℕ) → b < 256 → b % 256 ≡ b
small b lt = omega arith

byte_again : (b : ℕ) → b < 256 → octal_byte (48 + b / 64) (48 + b / 8 % 8) (48 + b % 8) ≡ b
byte_again b lt =
    let whole : 64 * (48 + b / 64 - 48) + 8 * (48 + b / 8 % 8 - 48) + (48 + b % 8 - 48) ≡ b = omega arith in
    rw whole (small b lt)

octal_again : (b : ℕ) (t text : List ℕ) → b < 256 → Quoted t text → Quoted (b ∷ t) (92 ∷ (octal_digits b ++ text))
octal_again b t text lt q =
    let high : b / 64 < 8 = omega arith in
    let middle : b / 8 % 8 < 8 = omega arith in
    let low : b % 8 < 8 = omega arith in
    subst (λ (x : ℕ). Quoted (x ∷ t) (92 ∷ (octal_digits b ++ text))) (byte_again b lt) (octal_three (48 + b / 64) (48 + b / 8 % 8) (48 + b % 8) (octal_is (b / 64) high) (octal_is (b / 8 % 8) middle) (octal_is (b % 8) low) q)

control_small : (b : ℕ) (p q : Bool) → nat_lt b 32 ≡ p → b == 127 ≡ q → (p || q) ≡ true → b < 256
control_small b true q e1 e2 h = let lt : b < 32 = ltb-true b 32 e1 in omega arith
control_small b false true e1 e2 h = let is : b ≡ 127 = eqb-true b 127 e2 in omega arith
control_small b false false e1 e2 h = absurd cc

escape_again : (b : ℕ) (t text : List ℕ) (quote slash feed tab octal : Bool) → b == 34 ≡ quote → b == 92 ≡ slash → b == 10 ≡ feed → b == 9 ≡ tab → (nat_lt b 32 || b == 127) ≡ octal → Quoted t text → Quoted (b ∷ t) (escape b ++ text)
escape_again b t text true slash feed tab octal e1 e2 e3 e4 e5 q = let is : b ≡ 34 = eqb-true b 34 e1 in subst (λ (x : ℕ). Quoted (x ∷ t) (escape x ++ text)) (sym is) (escaped 34 refl q)
escape_again b t text false true feed tab octal e1 e2 e3 e4 e5 q = let is : b ≡ 92 = eqb-true b 92 e2 in subst (λ (x : ℕ). Quoted (x ∷ t) (escape x ++ text)) (sym is) (escaped 92 refl q)
escape_again b t text false false true tab octal e1 e2 e3 e4 e5 q = let is : b ≡ 10 = eqb-true b 10 e3 in subst (λ (x : ℕ). Quoted (x ∷ t) (escape x ++ text)) (sym is) (escaped 110 refl q)
escape_again b t text false false false true octal e1 e2 e3 e4 e5 q = let is : b ≡ 9 = eqb-true b 9 e4 in subst (λ (x : ℕ). Quoted (x ∷ t) (escape x ++ text)) (sym is) (escaped 116 refl q)
escape_again b t text false false false false true e1 e2 e3 e4 e5 q = rw (e1, e2, e3, e4, e5) (octal_again b t text (control_small b (nat_lt b 32) (b == 127) refl refl e5) q)
escape_again b t text false false false false false e1 e2 e3 e4 e5 q = rw (e1, e2, e3, e4, e5) (plain b e1 e2 q)

pub quoted_again : (t : List ℕ) → Quoted t (flat_map escape t)
quoted_again [] = nothing
quoted_again (b ∷ t) = escape_again b t (flat_map escape t) (b == 34) (b == 92) (b == 10) (b == 9) (nat_lt b 32 || b == 127) refl refl refl refl refl (quoted_again t)

string_again : (t rest : List ℕ) → next ((34 ∷ flat_map escape t ++ 34 ∷ []) ++ rest) ≡ Some (token.Text t, rest)
string_again t rest =
    ap (λ (x : List ℕ). next (34 ∷ x)) (append_assoc (flat_map escape t) (34 ∷ []) rest) ∙ string_next t (flat_map escape t) rest (quoted_again t)

-- ---- words

word_again : (w : Word) (rest : List ℕ) → (w ≡ word.Other → ⊥) → Ends is_word_byte rest → next (word_text w ++ rest) ≡ Some (token.Word w, rest)
unfolding word_of
word_again word.Autoidx rest h ends = word_next 97 (codes "utoidx") rest refl refl ends
word_again word.Module rest h ends = word_next 109 (codes "odule") rest refl refl ends
word_again word.End rest h ends = word_next 101 (codes "nd") rest refl refl ends
word_again word.Attribute rest h ends = word_next 97 (codes "ttribute") rest refl refl ends
word_again word.Parameter rest h ends = word_next 112 (codes "arameter") rest refl refl ends
word_again word.Signed rest h ends = word_next 115 (codes "igned") rest refl refl ends
word_again word.Real rest h ends = word_next 114 (codes "eal") rest refl refl ends
word_again word.Wire rest h ends = word_next 119 (codes "ire") rest refl refl ends
word_again word.Width rest h ends = word_next 119 (codes "idth") rest refl refl ends
word_again word.Offset rest h ends = word_next 111 (codes "ffset") rest refl refl ends
word_again word.Input rest h ends = word_next 105 (codes "nput") rest refl refl ends
word_again word.Output rest h ends = word_next 111 (codes "utput") rest refl refl ends
word_again word.Inout rest h ends = word_next 105 (codes "nout") rest refl refl ends
word_again word.Upto rest h ends = word_next 117 (codes "pto") rest refl refl ends
word_again word.Memory rest h ends = word_next 109 (codes "emory") rest refl refl ends
word_again word.Size rest h ends = word_next 115 (codes "ize") rest refl refl ends
word_again word.Cell rest h ends = word_next 99 (codes "ell") rest refl refl ends
word_again word.Connect rest h ends = word_next 99 (codes "onnect") rest refl refl ends
word_again word.Process rest h ends = word_next 112 (codes "rocess") rest refl refl ends
word_again word.Other rest h ends = absurd (h refl)

-- ---- tokens

pub token_again : (t : Token) (rest : List ℕ) → Fits t → Stops t rest → next (spelling t ++ rest) ≡ Some (t, rest)
unfolding spelling
token_again (token.Id n) rest f s = identifier_again n rest f s
token_again (token.Number z) rest f s = number_again z rest f s
token_again (token.Digits ds) rest f s = constant_again ds rest s.0 s.1
token_again (token.Text t) rest f s = string_again t rest
token_again (token.Word w) rest f s = word_again w rest f s
token_again token.OpenBrace rest f s = single_next 123 rest refl
token_again token.CloseBrace rest f s = single_next 125 rest refl
token_again token.OpenBracket rest f s = single_next 91 rest refl
token_again token.CloseBracket rest f s = single_next 93 rest refl
token_again token.Colon rest f s = single_next 58 rest refl
token_again token.Bad rest f s = absurd f
token_again (token.Over seen) rest f s = absurd f

-- a printed token before what it ends at
pub tokens_again : (t : Token) (rest : List ℕ) → Fits t → Stops t rest → tokens (spelling t ++ rest) ≡ t ∷ tokens rest
tokens_again t rest f s = (next_some (spelling t ++ rest) (t, rest) (token_again t rest f s)).0

-- ---- no printed token has a line feed

pub on_both : (xs ys : List ℕ) → OnLine xs → OnLine ys → OnLine (xs ++ ys)
on_both xs ys p q = rw list_all-append (and_is _ _ p q)

decimals_on_line : (ds : List ℕ) → list_all is_decimal ds ≡ true → OnLine ds
decimals_on_line [] h = refl
decimals_on_line (d ∷ ds) h = let k = both (is_decimal d) (list_all is_decimal ds) h in and_is _ _ (starts_decimal d k.0).1 (decimals_on_line ds k.1)

numeral_on_line : (n : ℕ) → OnLine (numeral n)
numeral_on_line n = decimals_on_line (numeral n) (spells n).digits

number_on_line : (z : ℤ) → OnLine (signed_numeral z)
number_on_line (pos n) = numeral_on_line n
number_on_line (negsuc n) = numeral_on_line (n + 1)

digits_on_line : (ds : List Digit) → OnLine (map digit_byte ds)
digits_on_line [] = refl
digits_on_line (d ∷ ds) = and_is _ _ (is_digit d).2 (digits_on_line ds)

above_on_line : (d : ℕ) → is_on_line (48 + d) ≡ true
above_on_line d = rw (ne_eqb (48 + d) 10 (omega arith)) refl

escape_on_line : (b : ℕ) (quote slash feed tab octal : Bool) → b == 34 ≡ quote → b == 92 ≡ slash → b == 10 ≡ feed → b == 9 ≡ tab → (nat_lt b 32 || b == 127) ≡ octal → OnLine (escape b)
escape_on_line b true slash feed tab octal e1 e2 e3 e4 e5 = rw e1 refl
escape_on_line b false true feed tab octal e1 e2 e3 e4 e5 = rw (e1, e2) refl
escape_on_line b false false true tab octal e1 e2 e3 e4 e5 = rw (e1, e2, e3) refl
escape_on_line b false false false true octal e1 e2 e3 e4 e5 = rw (e1, e2, e3, e4) refl
escape_on_line b false false false false true e1 e2 e3 e4 e5 = rw (e1, e2, e3, e4, e5) (and_is _ _ (above_on_line (b / 64)) (and_is _ _ (above_on_line (b / 8 % 8)) (and_is _ _ (above_on_line (b % 8)) refl)))
escape_on_line b false false false false false e1 e2 e3 e4 e5 = rw (e1, e2, e3, e4, e5, e3) refl

string_on_line : (t : List ℕ) → OnLine (flat_map escape t)
string_on_line [] = refl
string_on_line (b ∷ t) = on_both (escape b) (flat_map escape t) (escape_on_line b (b == 34) (b == 92) (b == 10) (b == 9) (nat_lt b 32 || b == 127) refl refl refl refl refl) (string_on_line t)

word_on_line : (w : Word) → OnLine (word_text w)
word_on_line word.Autoidx = refl
word_on_line word.Module = refl
word_on_line word.End = refl
word_on_line word.Attribute = refl
word_on_line word.Parameter = refl
word_on_line word.Signed = refl
word_on_line word.Real = refl
word_on_line word.Wire = refl
word_on_line word.Width = refl
word_on_line word.Offset = refl
word_on_line word.Input = refl
word_on_line word.Output = refl
word_on_line word.Inout = refl
word_on_line word.Upto = refl
word_on_line word.Memory = refl
word_on_line word.Size = refl
word_on_line word.Cell = refl
word_on_line word.Connect = refl
word_on_line word.Process = refl
word_on_line word.Other = refl

pub token_on_line : (t : Token) → Fits t → OnLine (spelling t)
unfolding spelling
token_on_line (token.Id n) f = f.on_line
token_on_line (token.Number z) f = number_on_line z
token_on_line (token.Digits ds) f = on_both (numeral (length ds)) (39 ∷ map digit_byte ds) (numeral_on_line (length ds)) (digits_on_line ds)
token_on_line (token.Text t) f = on_both (flat_map escape t) (34 ∷ []) (string_on_line t) refl
token_on_line (token.Word w) f = word_on_line w
token_on_line token.OpenBrace f = refl
token_on_line token.CloseBrace f = refl
token_on_line token.OpenBracket f = refl
token_on_line token.CloseBracket f = refl
token_on_line token.Colon f = refl
token_on_line token.Bad f = absurd f
token_on_line (token.Over seen) f = absurd f
