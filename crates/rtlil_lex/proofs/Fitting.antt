-- What is read can be printed: each token of a line that is no fault has a printed form.
use Rattle.std.proofs.Common.{◌≡◌, ℕ, zero, suc, ◌^◌, ◌≤◌, Bool, true, false, List, [], ◌∷◌, ◌++◌, length, map, refl, arith}
use Rattle.std.specs.Prelude.{◌==◌, nat_lt, nat_le}
use Rattle.std.specs.List.{list_all}
use Rattle.std.proofs.lemmas.Bool.{ltb-true, ltb-false, leb-true}
use Rattle.std.proofs.lemmas.List.Folds.{list_all-append}
use Rattle.rtlil_lex.specs.declared.bytes.Start.TheVariants as start
use Rattle.rtlil_lex.specs.declared.token.Token.{Token}
use Rattle.rtlil_lex.specs.Bytes.{is_blank, is_visible, is_decimal, is_letter, begins_identifier, is_on_line, start_of}
use Rattle.rtlil_lex.specs.Values.{identifier_token, value_of, number_token, negative_token, single_token}
use Rattle.rtlil_lex.specs.Lex.{tokens}
use Rattle.rtlil_lex.specs.Lexes.{Lexes, nothing, blank, comment, identifier, word, number, negative_number, constant, flagged_constant, string, unclosed, lone_minus, single}
use Rattle.rtlil_lex.specs.Lines.{onto_first, lines, token_lines}
use Rattle.rtlil_lex.specs.Spelling.{Begins, Fits, IsKnown, KnownFit, AllKnownFit}
use Rattle.rtlil_lex.proofs.Runs.{both, and_is}
use Rattle.rtlil_lex.proofs.Lexical.{lexes}
use Rattle.rtlil_lex.proofs.Spelled.{OnLine}

-- ---- tokens

begins_by : (c : ℕ) (w h i q m d l : Bool) → is_blank c ≡ w → c == 35 ≡ h → begins_identifier c ≡ i → c == 34 ≡ q → c == 45 ≡ m → is_decimal c ≡ d → is_letter c ≡ l → start_of c ≡ start.Identifier → (is_visible c ≡ true) × (begins_identifier c ≡ true)
begins_by c true h i q m d l e1 e2 e3 e4 e5 e6 e7 s = let no : start.Blank ≡ start.Identifier = rw e1 at s in absurd cc
begins_by c false true i q m d l e1 e2 e3 e4 e5 e6 e7 s = let no : start.Comment ≡ start.Identifier = rw (e1, e2) at s in absurd cc
begins_by c false false true q m d l e1 e2 e3 e4 e5 e6 e7 s = (rw e1 refl, e3)
begins_by c false false false true m d l e1 e2 e3 e4 e5 e6 e7 s = let no : start.Quote ≡ start.Identifier = rw (e1, e2, e3, e4) at s in absurd cc
begins_by c false false false false true d l e1 e2 e3 e4 e5 e6 e7 s = let no : start.Minus ≡ start.Identifier = rw (e1, e2, e3, e4, e5) at s in absurd cc
begins_by c false false false false false true l e1 e2 e3 e4 e5 e6 e7 s = let no : start.Decimal ≡ start.Identifier = rw (e1, e2, e3, e4, e5, e6) at s in absurd cc
begins_by c false false false false false false true e1 e2 e3 e4 e5 e6 e7 s = let no : start.Letter ≡ start.Identifier = rw (e1, e2, e3, e4, e5, e6, e7) at s in absurd cc
begins_by c false false false false false false false e1 e2 e3 e4 e5 e6 e7 s = let no : start.Single ≡ start.Identifier = rw (e1, e2, e3, e4, e5, e6, e7) at s in absurd cc

begins : (c : ℕ) → start_of c ≡ start.Identifier → (is_visible c ≡ true) × (begins_identifier c ≡ true)
begins c s = begins_by c (is_blank c) (c == 35) (begins_identifier c) (c == 34) (c == 45) (is_decimal c) (is_letter c) refl refl refl refl refl refl refl s

identifier_fits : (n : List ℕ) (short : Bool) → nat_lt (length n) 2 ≡ short → Begins begins_identifier n → list_all is_visible n ≡ true → OnLine n → IsKnown (identifier_token n) → Fits (identifier_token n)
identifier_fits n true e b v o k = let no : ⊥ = rw e at k in absurd no
identifier_fits n false e b v o k = rw e (record { begins = b; long = ltb-false (length n) 2 e; visible = v; on_line = o })

number_fits : (n : ℕ) (b : Bool) → nat_lt n (2 ^ 31) ≡ b → IsKnown (number_token n) → Fits (number_token n)
number_fits n true e k = rw e (ltb-true n (2 ^ 31) e)
number_fits n false e k = let no : ⊥ = rw e at k in absurd no

negative_fits : (n : ℕ) (b : Bool) → nat_le n (2 ^ 31) ≡ b → IsKnown (negative_token n) → Fits (negative_token n)
negative_fits zero b e k = omega arith
negative_fits (suc n) true e k = let le : suc n ≤ 2 ^ 31 = leb-true (suc n) (2 ^ 31) e in rw e (omega arith)
negative_fits (suc n) false e k = let no : ⊥ = rw e at k in absurd no

single_by : (b : ℕ) (p q r s t : Bool) → b == 123 ≡ p → b == 125 ≡ q → b == 91 ≡ r → b == 93 ≡ s → b == 58 ≡ t → IsKnown (single_token b) → Fits (single_token b)
single_by b true q r s t e1 e2 e3 e4 e5 k = rw e1 tt
single_by b false true r s t e1 e2 e3 e4 e5 k = rw (e1, e2) tt
single_by b false false true s t e1 e2 e3 e4 e5 k = rw (e1, e2, e3) tt
single_by b false false false true t e1 e2 e3 e4 e5 k = rw (e1, e2, e3, e4) tt
single_by b false false false false true e1 e2 e3 e4 e5 k = rw (e1, e2, e3, e4, e5) tt
single_by b false false false false false e1 e2 e3 e4 e5 k = let no : ⊥ = rw (e1, e2, e3, e4, e5) at k in absurd no

single_fits : (b : ℕ) → IsKnown (single_token b) → Fits (single_token b)
single_fits b k = single_by b (b == 123) (b == 125) (b == 91) (b == 93) (b == 58) refl refl refl refl refl k

-- ---- lines

parts_on_line : (a b : List ℕ) → OnLine (a ++ b) → OnLine a × OnLine b
parts_on_line a b o = both (list_all is_on_line a) (list_all is_on_line b) (rw list_all-append at o)

rest_on_line : (a : List ℕ) (b : ℕ) (bs : List ℕ) → OnLine (a ++ (b ∷ bs)) → OnLine bs
rest_on_line a b bs o = (both (is_on_line b) (list_all is_on_line bs) (parts_on_line a (b ∷ bs) o).1).1

pub lexed_fit : (bs : List ℕ) (ts : List Token) → OnLine bs → Lexes bs ts → KnownFit ts
lexed_fit bs ts o nothing = tt
lexed_fit bs ts o (blank {rest = rest} {ts = more} b h k) = lexed_fit rest more (rest_on_line [] b rest o) k
lexed_fit bs ts o (comment more) = tt
lexed_fit bs ts o (identifier {rest = rest} {ts = more} c run h all ends k) =
    let here = parts_on_line (c ∷ run) rest o in
    let start = begins c h in
    (identifier_fits (c ∷ run) (nat_lt (length (c ∷ run)) 2) refl start.1 (and_is _ _ start.0 all) here.0, lexed_fit rest more here.1 k)
lexed_fit bs ts o (word {rest = rest} {ts = more} c run h all ends k) = (λ known. known, lexed_fit rest more (parts_on_line (c ∷ run) rest o).1 k)
lexed_fit bs ts o (number {rest = rest} {ts = more} c run h all ends k) = (number_fits (value_of (c ∷ run)) _ refl, lexed_fit rest more (parts_on_line (c ∷ run) rest o).1 k)
lexed_fit bs ts o (negative_number {rest = rest} {ts = more} c run h all ends k) = (negative_fits (value_of (c ∷ run)) _ refl, lexed_fit rest more (parts_on_line (45 ∷ c ∷ run) rest o).1 k)
lexed_fit bs ts o (constant {rest = rest} {ts = more} c run ds h all digits ends plain k) =
    (λ known. known, lexed_fit rest more (parts_on_line ds rest (rest_on_line (c ∷ run) 39 (ds ++ rest) o)).1 k)
lexed_fit bs ts o (flagged_constant {rest = rest} {ts = more} c run ds h all digits ends k) =
    (λ known. known, lexed_fit rest more (parts_on_line ds rest (rest_on_line [] 115 (ds ++ rest) (rest_on_line (c ∷ run) 39 (115 ∷ (ds ++ rest)) o))).1 k)
lexed_fit bs ts o (string {t = t} {text = text} {rest = rest} {ts = more} q k) = (λ known. known, lexed_fit rest more (rest_on_line (34 ∷ text) 34 rest o) k)
lexed_fit bs ts o (unclosed more none) = (λ known. known, tt)
lexed_fit bs ts o (lone_minus {rest = rest} {ts = more} ends k) = (λ known. known, lexed_fit rest more (rest_on_line [] 45 rest o) k)
lexed_fit bs ts o (single {rest = rest} {ts = more} b h k) = (single_fits b, lexed_fit rest more (rest_on_line [] b rest o) k)

-- ---- texts

abbrev AllOnLine : List (List ℕ) → Type 0
AllOnLine [] = Unit {0}
AllOnLine (l ∷ ls) = OnLine l × AllOnLine ls

onto_on_line : (b : ℕ) (ls : List (List ℕ)) → is_on_line b ≡ true → AllOnLine ls → AllOnLine (onto_first b ls)
onto_on_line b [] h o = (and_is _ _ h refl, tt)
onto_on_line b (l ∷ ls) h o = (and_is _ _ h o.0, o.1)

byte_on_line : (b : ℕ) (bs : List ℕ) (feed : Bool) → b == 10 ≡ feed → AllOnLine (lines bs) → AllOnLine (lines (b ∷ bs))
unfolding lines
byte_on_line b bs true e o = rw e (refl, o)
byte_on_line b bs false e o = let h : is_on_line b ≡ true = rw e refl in rw e (onto_on_line b (lines bs) h o)

all_on_line : (bs : List ℕ) → AllOnLine (lines bs)
unfolding lines
all_on_line [] = (refl, tt)
all_on_line (b ∷ bs) = byte_on_line b bs (b == 10) refl (all_on_line bs)

all_fit : (ls : List (List ℕ)) → AllOnLine ls → AllKnownFit (map tokens ls)
all_fit [] o = tt
all_fit (l ∷ ls) o = (lexed_fit l (tokens l) o.0 (lexes l), all_fit ls o.1)

-- each token of a text that is no fault has a printed form
pub text_fits : (bs : List ℕ) → AllKnownFit (token_lines bs)
text_fits bs = all_fit (lines bs) (all_on_line bs)
