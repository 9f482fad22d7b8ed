-- The computed tokens are those that the definition gives, and no others.
use Rattle.std.proofs.Common.{◌≡◌, ℕ, zero, suc, ◌<◌, ◌≤◌, Bool, true, false, List, [], ◌∷◌, ◌++◌, length, map, Option, Some, None, refl, sym, ap, subst, ◌∙◌, arith}
use Rattle.std.specs.Prelude.{◌==◌, ◌||◌}
use Rattle.std.specs.List.{prefix_len, list_all}
use Rattle.std.proofs.lemmas.List.{take-append-drop}
use Rattle.std.proofs.lemmas.Bool.{eqb-true}
use Rattle.std.proofs.Math.Numerals.{one-add}
use Rattle.rtlil_lex.specs.declared.bytes.Class.TheVariants as class
use Rattle.rtlil_lex.specs.declared.bytes.Start.{Start}
use Rattle.rtlil_lex.specs.declared.bytes.Start.TheVariants as start
use Rattle.rtlil_lex.specs.declared.string.Place.TheVariants as place
use Rattle.rtlil_lex.specs.declared.token.Token.{Token}
use Rattle.rtlil_lex.specs.declared.token.Token.TheVariants as token
use Rattle.rtlil_lex.specs.Bytes.{is_blank, is_visible, is_decimal, is_word_byte, is_constant_digit, begins_identifier, is_letter, start_of, Ends}
use Rattle.rtlil_lex.specs.Values.{identifier_token, word_of, value_of, number_token, negative_token, digit_of, constant_token, single_token}
use Rattle.rtlil_lex.specs.Lexes.{Quoted, goes_on, is_flag, Lexes, nothing, blank, comment, identifier, word, number, negative_number, constant, flagged_constant, string, unclosed, lone_minus, single}
use Rattle.rtlil_lex.specs.Lex.{front, past, string_at, string_or_bad, without_flag, constant_at, number_at, negative_at, token_by, token_at, next, and_then, tokens}
use Rattle.rtlil_lex.proofs.Runs.{both, and_is, span_front, span_past, front_all, past_ends}
use Rattle.rtlil_lex.proofs.Steps.{next_nil, next_some, next_none, tokens_by_next}
use Rattle.rtlil_lex.proofs.Quotes.{quoted_read, found}

-- ---- a byte that is no white space

begins_by : (t : Bool) (c : ℕ) (bs : List ℕ) (s : Start) → is_blank c ≡ t → (start.Blank ≡ s → ⊥) → start_of c ≡ s → next (c ∷ bs) ≡ token_by s c bs
unfolding next token_at
begins_by true c bs s h solid e = absurd (solid (rw h at e))
begins_by false c bs s h solid e =
    let here : past class.Blank (c ∷ bs) ≡ c ∷ bs = rw h refl in
    ap token_at here ∙ ap (λ (s : Start). token_by s c bs) e

pub begins : (c : ℕ) (bs : List ℕ) (s : Start) → (start.Blank ≡ s → ⊥) → start_of c ≡ s → next (c ∷ bs) ≡ token_by s c bs
begins c bs s solid e = begins_by (is_blank c) c bs s refl solid e

pub skips : (b : ℕ) (bs : List ℕ) → is_blank b ≡ true → tokens (b ∷ bs) ≡ tokens bs
unfolding next
skips b bs h =
    let same : next (b ∷ bs) ≡ next bs = rw (h, one-add (prefix_len is_blank bs)) refl in
    tokens_by_next (b ∷ bs) ∙ ap (λ (o : Option (Token × List ℕ)). and_then o tokens) same ∙ sym (tokens_by_next bs)

-- ---- numbers and constants

or_false : (a b : Bool) → (a || b) ≡ false → (a ≡ false) × (b ≡ false)
or_false true b e = absurd cc
or_false false b e = (refl, e)

ends_decimal : (rest : List ℕ) → Ends goes_on rest → Ends is_decimal rest
ends_decimal [] h = tt
ends_decimal (b ∷ rest) h = (or_false (is_decimal b) (b == 39) h).0

number_ends : (ds rest : List ℕ) → Ends goes_on rest → number_at ds rest ≡ (number_token (value_of ds), rest)
number_ends ds [] h = refl
number_ends ds (b ∷ rest) h = rw ((or_false (is_decimal b) (b == 39) h).1) refl

unflagged : (bs : List ℕ) → Ends is_flag bs → without_flag bs ≡ bs
unflagged [] h = refl
unflagged (b ∷ bs) h = rw h refl

constant_ends : (n : ℕ) (ds rest : List ℕ) → list_all is_constant_digit ds ≡ true → Ends is_constant_digit rest → constant_at n (ds ++ rest) ≡ (constant_token n (map digit_of ds), rest)
constant_ends n ds rest all ends = rw (span_front is_constant_digit ds rest all ends, span_past is_constant_digit ds rest all ends) refl

pub decimal_next : (c : ℕ) (run rest : List ℕ) → start_of c ≡ start.Decimal → list_all is_decimal run ≡ true → Ends is_decimal rest → next (c ∷ (run ++ rest)) ≡ Some (number_at (c ∷ run) rest)
unfolding token_by
decimal_next c run rest h all ends = begins c (run ++ rest) start.Decimal (λ e. cc) h ∙ rw (span_front is_decimal run rest all ends, span_past is_decimal run rest all ends) refl

pub number_next : (c : ℕ) (run rest : List ℕ) → start_of c ≡ start.Decimal → list_all is_decimal run ≡ true → Ends goes_on rest → next (c ∷ (run ++ rest)) ≡ Some (number_token (value_of (c ∷ run)), rest)
number_next c run rest h all ends = decimal_next c run rest h all (ends_decimal rest ends) ∙ ap (λ (x : Token × List ℕ). Some x) (number_ends (c ∷ run) rest ends)

pub negative_next : (c : ℕ) (run rest : List ℕ) → is_decimal c ≡ true → list_all is_decimal run ≡ true → Ends is_decimal rest → next (45 ∷ c ∷ (run ++ rest)) ≡ Some (negative_token (value_of (c ∷ run)), rest)
unfolding token_by
negative_next c run rest h all ends =
    let every : list_all is_decimal (c ∷ run) ≡ true = and_is _ _ h all in
    begins 45 (c ∷ (run ++ rest)) start.Minus (λ e. cc) refl ∙ ap (λ (x : Token × List ℕ). Some x) (ap (λ (d : List ℕ). negative_at d (past class.Decimal (c ∷ (run ++ rest)))) (span_front is_decimal (c ∷ run) rest every ends) ∙ ap (negative_at (c ∷ run)) (span_past is_decimal (c ∷ run) rest every ends))

lone_next : (rest : List ℕ) → Ends is_decimal rest → next (45 ∷ rest) ≡ Some (token.Bad, rest)
unfolding token_by
lone_next rest ends =
    begins 45 rest start.Minus (λ e. cc) refl ∙ ap (λ (x : Token × List ℕ). Some x) (ap (λ (d : List ℕ). negative_at d (past class.Decimal rest)) (span_front is_decimal [] rest refl ends) ∙ ap (negative_at []) (span_past is_decimal [] rest refl ends))

pub constant_next : (c : ℕ) (run ds rest : List ℕ) → start_of c ≡ start.Decimal → list_all is_decimal run ≡ true → list_all is_constant_digit ds ≡ true → Ends is_constant_digit rest → Ends is_flag (ds ++ rest)
    → next (c ∷ (run ++ (39 ∷ (ds ++ rest)))) ≡ Some (constant_token (value_of (c ∷ run)) (map digit_of ds), rest)
constant_next c run ds rest h all digits ends plain =
    decimal_next c run (39 ∷ (ds ++ rest)) h all refl ∙ ap (λ (x : Token × List ℕ). Some x) (ap (constant_at (value_of (c ∷ run))) (unflagged (ds ++ rest) plain) ∙ constant_ends (value_of (c ∷ run)) ds rest digits ends)

flagged_next : (c : ℕ) (run ds rest : List ℕ) → start_of c ≡ start.Decimal → list_all is_decimal run ≡ true → list_all is_constant_digit ds ≡ true → Ends is_constant_digit rest
    → next (c ∷ (run ++ (39 ∷ 115 ∷ (ds ++ rest)))) ≡ Some (constant_token (value_of (c ∷ run)) (map digit_of ds), rest)
flagged_next c run ds rest h all digits ends =
    decimal_next c run (39 ∷ 115 ∷ (ds ++ rest)) h all refl ∙ ap (λ (x : Token × List ℕ). Some x) (constant_ends (value_of (c ∷ run)) ds rest digits ends)

-- ---- identifiers, words, strings and single bytes

pub identifier_next : (c : ℕ) (run rest : List ℕ) → start_of c ≡ start.Identifier → list_all is_visible run ≡ true → Ends is_visible rest → next (c ∷ (run ++ rest)) ≡ Some (identifier_token (c ∷ run), rest)
unfolding token_by
identifier_next c run rest h all ends = begins c (run ++ rest) start.Identifier (λ e. cc) h ∙ rw (span_front is_visible run rest all ends, span_past is_visible run rest all ends) refl

pub word_next : (c : ℕ) (run rest : List ℕ) → start_of c ≡ start.Letter → list_all is_word_byte run ≡ true → Ends is_word_byte rest → next (c ∷ (run ++ rest)) ≡ Some (token.Word (word_of (c ∷ run)), rest)
unfolding token_by
word_next c run rest h all ends = begins c (run ++ rest) start.Letter (λ e. cc) h ∙ rw (span_front is_word_byte run rest all ends, span_past is_word_byte run rest all ends) refl

quote_next : (bs : List ℕ) (o : Option (List ℕ × List ℕ)) → string_at place.Plain bs ≡ o → next (34 ∷ bs) ≡ Some (string_or_bad o)
unfolding token_by
quote_next bs o e = begins 34 bs start.Quote (λ e. cc) refl ∙ ap (λ (o : Option (List ℕ × List ℕ)). Some (string_or_bad o)) e

pub string_next : (t text rest : List ℕ) → Quoted t text → next (34 ∷ (text ++ (34 ∷ rest))) ≡ Some (token.Text t, rest)
string_next t text rest q = quote_next (text ++ (34 ∷ rest)) (Some (t, rest)) (quoted_read t text rest q)

pub single_next : (b : ℕ) (rest : List ℕ) → start_of b ≡ start.Single → next (b ∷ rest) ≡ Some (single_token b, rest)
unfolding token_by
single_next b rest h = begins b rest start.Single (λ e. cc) h

comment_next : (bs : List ℕ) → next (35 ∷ bs) ≡ None
unfolding token_by
comment_next bs = begins 35 bs start.Comment (λ e. cc) refl

-- ---- from the definition

is_none : (bs : List ℕ) → ((t text rest : List ℕ) → Quoted t text → bs ≡ text ++ (34 ∷ rest) → ⊥) → (o : Option (List ℕ × List ℕ)) → string_at place.Plain bs ≡ o → string_at place.Plain bs ≡ None
is_none bs none None e = e
is_none bs none (Some x) e = let f = found bs x e in absurd (none x.0 f.text x.1 f.is f.parts)

one_then : (bs rest : List ℕ) (t : Token) (ts : List Token) → next bs ≡ Some (t, rest) → tokens rest ≡ ts → tokens bs ≡ t ∷ ts
one_then bs rest t ts e h = (next_some bs (t, rest) e).0 ∙ ap (λ (z : List Token). t ∷ z) h

pub tokens_are : (bs : List ℕ) (ts : List Token) → Lexes bs ts → tokens bs ≡ ts
tokens_are bs ts nothing = next_none [] next_nil
tokens_are bs ts (blank {rest = rest} b h k) = skips b rest h ∙ tokens_are rest ts k
tokens_are bs ts (comment more) = next_none (35 ∷ more) (comment_next more)
tokens_are bs ts (identifier {rest = rest} {ts = more} c run h all ends k) = one_then _ rest _ more (identifier_next c run rest h all ends) (tokens_are rest more k)
tokens_are bs ts (word {rest = rest} {ts = more} c run h all ends k) = one_then _ rest _ more (word_next c run rest h all ends) (tokens_are rest more k)
tokens_are bs ts (number {rest = rest} {ts = more} c run h all ends k) = one_then _ rest _ more (number_next c run rest h all ends) (tokens_are rest more k)
tokens_are bs ts (negative_number {rest = rest} {ts = more} c run h all ends k) = one_then _ rest _ more (negative_next c run rest h all ends) (tokens_are rest more k)
tokens_are bs ts (constant {rest = rest} {ts = more} c run ds h all digits ends plain k) = one_then _ rest _ more (constant_next c run ds rest h all digits ends plain) (tokens_are rest more k)
tokens_are bs ts (flagged_constant {rest = rest} {ts = more} c run ds h all digits ends k) = one_then _ rest _ more (flagged_next c run ds rest h all digits ends) (tokens_are rest more k)
tokens_are bs ts (string {t = t} {text = text} {rest = rest} {ts = more} q k) = one_then _ rest _ more (string_next t text rest q) (tokens_are rest more k)
tokens_are bs ts (unclosed more none) = one_then (34 ∷ more) [] token.Bad [] (quote_next more None (is_none more none (string_at place.Plain more) refl)) (next_none [] next_nil)
tokens_are bs ts (lone_minus {rest = rest} {ts = more} ends k) = one_then _ rest _ more (lone_next rest ends) (tokens_are rest more k)
tokens_are bs ts (single {rest = rest} {ts = more} b h k) = one_then _ rest _ more (single_next b rest h) (tokens_are rest more k)

-- ---- to the definition

-- lines that are shorter lex to their tokens
record Shorter (n : ℕ) : Type 0 where
  again : (rest : List ℕ) → length rest < n → Lexes rest (tokens rest)

one_more : (bs rest : List ℕ) (t : Token) → next bs ≡ Some (t, rest) → Lexes bs (t ∷ tokens rest) → Lexes bs (tokens bs)
one_more bs rest t e k = subst (λ (ts : List Token). Lexes bs ts) (sym (next_some bs (t, rest) e).0) k

shorter_rest : (bs rest : List ℕ) (t : Token) → next bs ≡ Some (t, rest) → Shorter (length bs) → Lexes rest (tokens rest)
shorter_rest bs rest t e s = s.again rest (next_some bs (t, rest) e).1

-- a token with the constructor that gives it
goes : (bs rest : List ℕ) (t : Token) → next bs ≡ Some (t, rest) → (Lexes rest (tokens rest) → Lexes bs (t ∷ tokens rest)) → Shorter (length bs) → Lexes bs (tokens bs)
goes bs rest t e give s = one_more bs rest t e (give (shorter_rest bs rest t e s))

along : (b : ℕ) (bs cs : List ℕ) → cs ≡ bs → (Shorter (length (b ∷ cs)) → Lexes (b ∷ cs) (tokens (b ∷ cs))) → Shorter (length (b ∷ bs)) → Lexes (b ∷ bs) (tokens (b ∷ bs))
along b bs cs e give s = subst (λ (r : List ℕ). Shorter (length (b ∷ r)) → Lexes (b ∷ r) (tokens (b ∷ r))) e give s

flag_by : (t : Bool) (c : ℕ) (run : List ℕ) (x : ℕ) (xs : List ℕ) → x == 115 ≡ t → start_of c ≡ start.Decimal → list_all is_decimal run ≡ true → Shorter (length (c ∷ (run ++ (39 ∷ x ∷ xs)))) → Lexes (c ∷ (run ++ (39 ∷ x ∷ xs))) (tokens (c ∷ (run ++ (39 ∷ x ∷ xs))))
flag_by true c run x xs e h all s =
    let ds = front class.ConstantDigit xs in
    let rest = past class.ConstantDigit xs in
    let digits = front_all is_constant_digit xs in
    let ends = past_ends is_constant_digit xs in
    let whole : ds ++ rest ≡ xs = take-append-drop (prefix_len is_constant_digit xs) xs in
    let same : run ++ (39 ∷ 115 ∷ (ds ++ rest)) ≡ run ++ (39 ∷ x ∷ xs) = ap (λ (y : List ℕ). run ++ (39 ∷ 115 ∷ y)) whole ∙ ap (λ (y : ℕ). run ++ (39 ∷ y ∷ xs)) (sym (eqb-true x 115 e)) in
    along c (run ++ (39 ∷ x ∷ xs)) (run ++ (39 ∷ 115 ∷ (ds ++ rest))) same (goes _ rest _ (flagged_next c run ds rest h all digits ends) (flagged_constant c run ds h all digits ends)) s
flag_by false c run x xs e h all s =
    let ds = front class.ConstantDigit (x ∷ xs) in
    let rest = past class.ConstantDigit (x ∷ xs) in
    let digits = front_all is_constant_digit (x ∷ xs) in
    let ends = past_ends is_constant_digit (x ∷ xs) in
    let whole : ds ++ rest ≡ x ∷ xs = take-append-drop (prefix_len is_constant_digit (x ∷ xs)) (x ∷ xs) in
    let plain : Ends is_flag (ds ++ rest) = subst (λ (y : List ℕ). Ends is_flag y) (sym whole) e in
    along c (run ++ (39 ∷ x ∷ xs)) (run ++ (39 ∷ (ds ++ rest))) (ap (λ (y : List ℕ). run ++ (39 ∷ y)) whole) (goes _ rest _ (constant_next c run ds rest h all digits ends plain) (constant c run ds h all digits ends plain)) s

constant_lexes : (c : ℕ) (run bs : List ℕ) → start_of c ≡ start.Decimal → list_all is_decimal run ≡ true → Shorter (length (c ∷ (run ++ (39 ∷ bs)))) → Lexes (c ∷ (run ++ (39 ∷ bs))) (tokens (c ∷ (run ++ (39 ∷ bs))))
constant_lexes c run [] h all s = goes (c ∷ (run ++ (39 ∷ []))) [] _ (constant_next c run [] [] h all refl tt tt) (constant c run [] h all refl tt tt) s
constant_lexes c run (x ∷ xs) h all s = flag_by (x == 115) c run x xs refl h all s

quote_by : (t : Bool) (c : ℕ) (run : List ℕ) (x : ℕ) (xs : List ℕ) → x == 39 ≡ t → is_decimal x ≡ false → start_of c ≡ start.Decimal → list_all is_decimal run ≡ true → Shorter (length (c ∷ (run ++ (x ∷ xs)))) → Lexes (c ∷ (run ++ (x ∷ xs))) (tokens (c ∷ (run ++ (x ∷ xs))))
quote_by true c run x xs e d h all s = along c (run ++ (x ∷ xs)) (run ++ (39 ∷ xs)) (ap (λ (y : ℕ). run ++ (y ∷ xs)) (sym (eqb-true x 39 e))) (constant_lexes c run xs h all) s
quote_by false c run x xs e d h all s =
    let ends : Ends goes_on (x ∷ xs) = rw (d, e) refl in
    goes _ (x ∷ xs) _ (number_next c run (x ∷ xs) h all ends) (number c run h all ends) s

decimal_lexes : (c : ℕ) (run rest : List ℕ) → Ends is_decimal rest → start_of c ≡ start.Decimal → list_all is_decimal run ≡ true → Shorter (length (c ∷ (run ++ rest))) → Lexes (c ∷ (run ++ rest)) (tokens (c ∷ (run ++ rest)))
decimal_lexes c run [] ends h all s = goes (c ∷ (run ++ [])) [] _ (number_next c run [] h all tt) (number c run h all tt) s
decimal_lexes c run (x ∷ xs) ends h all s = quote_by (x == 39) c run x xs refl ends h all s

minus_lexes : (run rest : List ℕ) → list_all is_decimal run ≡ true → Ends is_decimal rest → Shorter (length (45 ∷ (run ++ rest))) → Lexes (45 ∷ (run ++ rest)) (tokens (45 ∷ (run ++ rest)))
minus_lexes [] rest all ends s = goes (45 ∷ rest) rest token.Bad (lone_next rest ends) (lone_minus ends) s
minus_lexes (c ∷ run) rest all ends s =
    let k = both (is_decimal c) (list_all is_decimal run) all in
    goes (45 ∷ c ∷ (run ++ rest)) rest _ (negative_next c run rest k.0 k.1 ends) (negative_number c run k.0 k.1 ends) s

string_lexes : (bs : List ℕ) (o : Option (List ℕ × List ℕ)) → string_at place.Plain bs ≡ o → Shorter (length (34 ∷ bs)) → Lexes (34 ∷ bs) (tokens (34 ∷ bs))
string_lexes bs None e s =
    let none = unclosed bs (λ t text rest q parts. let z : None ≡ Some (t, rest) = sym e ∙ ap (string_at place.Plain) parts ∙ quoted_read t text rest q in absurd cc) in
    one_more (34 ∷ bs) [] token.Bad (quote_next bs None e) (subst (λ (ts : List Token). Lexes (34 ∷ bs) (token.Bad ∷ ts)) (sym (next_none [] next_nil)) none)
string_lexes bs (Some x) e s =
    let f = found bs x e in
    along 34 bs (f.text ++ (34 ∷ x.1)) (sym f.parts) (goes _ x.1 _ (string_next x.0 f.text x.1 f.is) (string f.is)) s

-- the byte that a start is
abbrev Begins : Start → ℕ → Type 0
Begins start.Blank b = is_blank b ≡ true
Begins start.Comment b = b ≡ 35
Begins start.Identifier b = Unit {0}
Begins start.Quote b = b ≡ 34
Begins start.Minus b = b ≡ 45
Begins start.Decimal b = Unit {0}
Begins start.Letter b = Unit {0}
Begins start.Single b = Unit {0}

starts_by : (b : ℕ) (w c i q m d l : Bool) → is_blank b ≡ w → b == 35 ≡ c → begins_identifier b ≡ i → b == 34 ≡ q → b == 45 ≡ m → is_decimal b ≡ d → is_letter b ≡ l → Begins (start_of b) b
starts_by b true c i q m d l e1 e2 e3 e4 e5 e6 e7 = rw e1 e1
starts_by b false true i q m d l e1 e2 e3 e4 e5 e6 e7 = rw (e1, e2) (eqb-true b 35 e2)
starts_by b false false true q m d l e1 e2 e3 e4 e5 e6 e7 = rw (e1, e2, e3) tt
starts_by b false false false true m d l e1 e2 e3 e4 e5 e6 e7 = rw (e1, e2, e3, e4) (eqb-true b 34 e4)
starts_by b false false false false true d l e1 e2 e3 e4 e5 e6 e7 = rw (e1, e2, e3, e4, e5) (eqb-true b 45 e5)
starts_by b false false false false false true l e1 e2 e3 e4 e5 e6 e7 = rw (e1, e2, e3, e4, e5, e6) tt
starts_by b false false false false false false true e1 e2 e3 e4 e5 e6 e7 = rw (e1, e2, e3, e4, e5, e6, e7) tt
starts_by b false false false false false false false e1 e2 e3 e4 e5 e6 e7 = rw (e1, e2, e3, e4, e5, e6, e7) tt

starts : (b : ℕ) → Begins (start_of b) b
starts b = starts_by b (is_blank b) (b == 35) (begins_identifier b) (b == 34) (b == 45) (is_decimal b) (is_letter b) refl refl refl refl refl refl refl

at_byte : (b c : ℕ) (bs : List ℕ) → b ≡ c → (Shorter (length (c ∷ bs)) → Lexes (c ∷ bs) (tokens (c ∷ bs))) → Shorter (length (b ∷ bs)) → Lexes (b ∷ bs) (tokens (b ∷ bs))
at_byte b c bs e give s = subst (λ (x : ℕ). Shorter (length (x ∷ bs)) → Lexes (x ∷ bs) (tokens (x ∷ bs))) (sym e) give s

by_start : (s : Start) (b : ℕ) (bs : List ℕ) → start_of b ≡ s → Begins s b → Shorter (length (b ∷ bs)) → Lexes (b ∷ bs) (tokens (b ∷ bs))
by_start start.Blank b bs e i s = subst (λ (ts : List Token). Lexes (b ∷ bs) ts) (sym (skips b bs i)) (blank b i (s.again bs (omega arith)))
by_start start.Comment b bs e i s = at_byte b 35 bs i (λ _. subst (λ (ts : List Token). Lexes (35 ∷ bs) ts) (sym (next_none (35 ∷ bs) (comment_next bs))) (comment bs)) s
by_start start.Identifier b bs e i s =
    let run = front class.Visible bs in
    let rest = past class.Visible bs in
    let all = front_all is_visible bs in
    let ends = past_ends is_visible bs in
    along b bs (run ++ rest) (take-append-drop (prefix_len is_visible bs) bs) (goes _ rest _ (identifier_next b run rest e all ends) (identifier b run e all ends)) s
by_start start.Quote b bs e i s = at_byte b 34 bs i (string_lexes bs (string_at place.Plain bs) refl) s
by_start start.Minus b bs e i s =
    at_byte b 45 bs i (along 45 bs (front class.Decimal bs ++ past class.Decimal bs) (take-append-drop (prefix_len is_decimal bs) bs) (minus_lexes (front class.Decimal bs) (past class.Decimal bs) (front_all is_decimal bs) (past_ends is_decimal bs))) s
by_start start.Decimal b bs e i s =
    along b bs (front class.Decimal bs ++ past class.Decimal bs) (take-append-drop (prefix_len is_decimal bs) bs) (decimal_lexes b (front class.Decimal bs) (past class.Decimal bs) (past_ends is_decimal bs) e (front_all is_decimal bs)) s
by_start start.Letter b bs e i s =
    let run = front class.WordByte bs in
    let rest = past class.WordByte bs in
    let all = front_all is_word_byte bs in
    let ends = past_ends is_word_byte bs in
    along b bs (run ++ rest) (take-append-drop (prefix_len is_word_byte bs) bs) (goes _ rest _ (word_next b run rest e all ends) (word b run e all ends)) s
by_start start.Single b bs e i s = goes (b ∷ bs) bs (single_token b) (single_next b bs e) (single b e) s

lexes_within : (n : ℕ) (bs : List ℕ) → length bs ≤ n → Lexes bs (tokens bs)
lexes_within n [] le = subst (λ (ts : List Token). Lexes [] ts) (sym (next_none [] next_nil)) nothing
lexes_within zero (b ∷ bs) le = absurd (omega arith)
lexes_within (suc n) (b ∷ bs) le = by_start (start_of b) b bs refl (starts b) (record { again = λ rest lt. lexes_within n rest (omega arith) })

pub lexes : (bs : List ℕ) → Lexes bs (tokens bs)
lexes bs = lexes_within (length bs) bs (omega arith)
