-- The tokens of a line are those that the cases give, and no others.
use Rattle.std.proofs.Common.{◌≡◌, ℕ, zero, suc, ◌+◌, ◌-◌, ◌<◌, ◌≤◌, Bool, true, false, cond, List, [], ◌∷◌, ◌++◌, length, take, drop, Option, Some, None, refl, sym, ap, subst, ◌∙◌, append_assoc, arith, length-drop}
use Rattle.std.specs.Prelude.{◌==◌, ◌&&◌, not}
use Rattle.std.specs.List.{prefix_len, list_all}
use Rattle.std.proofs.lemmas.List.{take-append-drop, take_at, drop_at}
use Rattle.std.proofs.lemmas.Bool.{eqb-true}
use Rattle.std.proofs.Math.Numerals.{one-add}
use Rattle.lib_tree.specs.declared.lex.Begin.{Begin}
use Rattle.lib_tree.specs.declared.lex.Begin.TheVariants as begin
use Rattle.lib_tree.specs.declared.lex.Class.{Class}
use Rattle.lib_tree.specs.declared.lex.Class.TheVariants as class
use Rattle.lib_tree.specs.declared.token.Token.{Token}
use Rattle.lib_tree.specs.declared.token.Token.TheVariants as token
use Rattle.lib_tree.specs.Lex.{and_then, begin_of, front, id_token, is_blank, is_in, is_letter, next, past, run_token, string_token, token_at, token_by, tokens}
use Rattle.lib_tree.specs.Lexical.{AreTokens, Ends, Lexes, NoQuote, blank, closes, comment, ends, name, no_bytes, opens, other, quoted, run, unclosed}
use Rattle.lib_tree.proofs.Lines.{next_nil, next_none, next_some, tokens_by_next}

-- ---- runs of a class

both : (a b : Bool) → (a && b) ≡ true → (a ≡ true) × (b ≡ true)
both true b e = (refl, e)
both false b e = absurd cc

span : (p : ℕ → Bool) (xs rest : List ℕ) → list_all p xs ≡ true → Ends p rest → prefix_len p (xs ++ rest) ≡ length xs
span p [] [] h s = refl
span p [] (b ∷ bs) h s = rw s refl
span p (x ∷ xs) rest h s = let k = both (p x) (list_all p xs) h in rw (k.0, span p xs rest k.1 s) (one-add (length xs))

span_front : (p : ℕ → Bool) (xs rest : List ℕ) → list_all p xs ≡ true → Ends p rest → take (prefix_len p (xs ++ rest)) (xs ++ rest) ≡ xs
span_front p xs rest h s = rw (span p xs rest h s) (take_at xs rest (length xs) refl)

span_past : (p : ℕ → Bool) (xs rest : List ℕ) → list_all p xs ≡ true → Ends p rest → drop (prefix_len p (xs ++ rest)) (xs ++ rest) ≡ rest
span_past p xs rest h s = rw (span p xs rest h s) (drop_at xs rest (length xs) refl)

front_at : (p : ℕ → Bool) (b : ℕ) (bs : List ℕ) (t : Bool) → p b ≡ t → list_all p (take (prefix_len p bs) bs) ≡ true → list_all p (take (prefix_len p (b ∷ bs)) (b ∷ bs)) ≡ true
front_at p b bs true e h = rw (e, one-add (prefix_len p bs), e) h
front_at p b bs false e h = rw e refl

front_all : (p : ℕ → Bool) (bs : List ℕ) → list_all p (take (prefix_len p bs) bs) ≡ true
front_all p [] = refl
front_all p (b ∷ bs) = front_at p b bs (p b) refl (front_all p bs)

past_at : (p : ℕ → Bool) (b : ℕ) (bs : List ℕ) (t : Bool) → p b ≡ t → Ends p (drop (prefix_len p bs) bs) → Ends p (drop (prefix_len p (b ∷ bs)) (b ∷ bs))
past_at p b bs true e h = rw (e, one-add (prefix_len p bs)) h
past_at p b bs false e h = rw e e

past_ends : (p : ℕ → Bool) (bs : List ℕ) → Ends p (drop (prefix_len p bs) bs)
past_ends p [] = tt
past_ends p (b ∷ bs) = past_at p b bs (p b) refl (past_ends p bs)

-- ---- a byte that is no blank

begins : (line c : ℕ) (bs : List ℕ) (s : Begin) → is_blank c ≡ false → begin_of c ≡ s → next line (c ∷ bs) ≡ token_by line s c bs
unfolding next token_at
begins line c bs s h e = rw (h, e) refl

skips : (line b : ℕ) (bs : List ℕ) → is_blank b ≡ true → tokens line (b ∷ bs) ≡ tokens line bs
unfolding next
skips line b bs h =
    let same : next line (b ∷ bs) ≡ next line bs = rw (h, one-add (prefix_len is_blank bs)) refl in
    tokens_by_next line (b ∷ bs) ∙ ap (λ (o : Option (Token × List ℕ)). and_then o (tokens line)) same ∙ sym (tokens_by_next line bs)

first_is : (line : ℕ) (bs rest : List ℕ) (t : Token) (ts : List Token) → next line bs ≡ Some (t, rest) → tokens line rest ≡ ts → tokens line bs ≡ t ∷ ts
first_is line bs rest t ts e h = (next_some line bs (t, rest) e).0 ∙ ap (λ (z : List Token). t ∷ z) h

-- ---- from the cases

no_quote_token : (text rest : List ℕ) → NoQuote rest → string_token text rest ≡ (token.Bad, [])
no_quote_token text [] h = refl
no_quote_token text (b ∷ bs) h = rw h refl

tokens_are : (line : ℕ) (bs : List ℕ) (ts : List Token) → Lexes line bs ts → tokens line bs ≡ ts
unfolding token_by
tokens_are line bs ts no_bytes = next_none line [] (next_nil line)
tokens_are line bs ts (blank {bs = more} b h k) = skips line b more h ∙ tokens_are line more ts k
tokens_are line bs ts (comment more) = next_none line (35 ∷ more) (begins line 35 more begin.Comment refl refl)
tokens_are line bs ts (name {rest = rest} {ts = more} c n h e all ended k) =
    first_is line (c ∷ (n ++ rest)) rest (id_token (c ∷ n)) more (begins line c (n ++ rest) begin.Name h e ∙ rw (span_front (is_in class.Visible) n rest all ended, span_past (is_in class.Visible) n rest all ended) refl) (tokens_are line rest more k)
tokens_are line bs ts (run {rest = rest} {ts = more} c n h e all ended k) =
    first_is line (c ∷ (n ++ rest)) rest (run_token line (c ∷ n)) more (begins line c (n ++ rest) begin.Run h e ∙ rw (span_front (is_in class.Letter) n rest all ended, span_past (is_in class.Letter) n rest all ended) refl) (tokens_are line rest more k)
tokens_are line bs ts (quoted {rest = rest} {ts = more} text all k) =
    first_is line (34 ∷ (text ++ (34 ∷ rest))) rest (token.Text text) more (begins line 34 (text ++ (34 ∷ rest)) begin.Quote refl refl ∙ rw (span_front (is_in class.Quoted) text (34 ∷ rest) all refl, span_past (is_in class.Quoted) text (34 ∷ rest) all refl) refl) (tokens_are line rest more k)
tokens_are line bs ts (unclosed text rest all ended none) =
    first_is line (34 ∷ (text ++ rest)) [] token.Bad [] (begins line 34 (text ++ rest) begin.Quote refl refl ∙ rw (span_front (is_in class.Quoted) text rest all ended, span_past (is_in class.Quoted) text rest all ended) (ap (λ (x : Token × List ℕ). Some x) (no_quote_token text rest none))) (next_none line [] (next_nil line))
tokens_are line bs ts (opens {rest = rest} {ts = more} k) = first_is line (123 ∷ rest) rest token.Open more (begins line 123 rest begin.Open refl refl) (tokens_are line rest more k)
tokens_are line bs ts (closes {rest = rest} {ts = more} k) = first_is line (125 ∷ rest) rest token.Close more (begins line 125 rest begin.Close refl refl) (tokens_are line rest more k)
tokens_are line bs ts (ends {rest = rest} {ts = more} k) = first_is line (59 ∷ rest) rest token.Semicolon more (begins line 59 rest begin.Semicolon refl refl) (tokens_are line rest more k)
tokens_are line bs ts (other {rest = rest} {ts = more} c h e k) = first_is line (c ∷ rest) rest token.Bad more (begins line c rest begin.Nothing h e) (tokens_are line rest more k)

-- ---- to the cases

-- the byte that a beginning is
abbrev BeginsWith : Begin → ℕ → Type 0
BeginsWith begin.Comment b = b ≡ 35
BeginsWith begin.Name b = Unit {0}
BeginsWith begin.Quote b = b ≡ 34
BeginsWith begin.Open b = b ≡ 123
BeginsWith begin.Close b = b ≡ 125
BeginsWith begin.Semicolon b = b ≡ 59
BeginsWith begin.Run b = Unit {0}
BeginsWith begin.Nothing b = Unit {0}

begins_by : (b : ℕ) (p n m q o c s l : Bool) → b == 35 ≡ p → b == 92 ≡ n → b == 36 ≡ m → b == 34 ≡ q → b == 123 ≡ o → b == 125 ≡ c → b == 59 ≡ s → is_letter b ≡ l → BeginsWith (begin_of b) b
begins_by b true n m q o c s l e1 e2 e3 e4 e5 e6 e7 e8 = rw e1 (eqb-true b 35 e1)
begins_by b false true m q o c s l e1 e2 e3 e4 e5 e6 e7 e8 = rw (e1, e2) tt
begins_by b false false true q o c s l e1 e2 e3 e4 e5 e6 e7 e8 = rw (e1, e2, e3) tt
begins_by b false false false true o c s l e1 e2 e3 e4 e5 e6 e7 e8 = rw (e1, e2, e3, e4) (eqb-true b 34 e4)
begins_by b false false false false true c s l e1 e2 e3 e4 e5 e6 e7 e8 = rw (e1, e2, e3, e4, e5) (eqb-true b 123 e5)
begins_by b false false false false false true s l e1 e2 e3 e4 e5 e6 e7 e8 = rw (e1, e2, e3, e4, e5, e6) (eqb-true b 125 e6)
begins_by b false false false false false false true l e1 e2 e3 e4 e5 e6 e7 e8 = rw (e1, e2, e3, e4, e5, e6, e7) (eqb-true b 59 e7)
begins_by b false false false false false false false true e1 e2 e3 e4 e5 e6 e7 e8 = rw (e1, e2, e3, e4, e5, e6, e7, e8) tt
begins_by b false false false false false false false false e1 e2 e3 e4 e5 e6 e7 e8 = rw (e1, e2, e3, e4, e5, e6, e7, e8) tt

begins_is : (b : ℕ) → BeginsWith (begin_of b) b
begins_is b = begins_by b (b == 35) (b == 92) (b == 36) (b == 34) (b == 123) (b == 125) (b == 59) (is_letter b) refl refl refl refl refl refl refl refl

one_more : (line : ℕ) (bs : List ℕ) (t : Token) (rest : List ℕ) → next line bs ≡ Some (t, rest) → Lexes line bs (t ∷ tokens line rest) → Lexes line bs (tokens line bs)
one_more line bs t rest e k = subst (λ (ts : List Token). Lexes line bs ts) (sym (next_some line bs (t, rest) e).0) k

quote_at : (line : ℕ) (bs text : List ℕ) (b : ℕ) (rest : List ℕ) (p : Bool) → (b == 34) ≡ p → next line (34 ∷ bs) ≡ Some (string_token text (b ∷ rest)) → text ++ (b ∷ rest) ≡ bs → list_all (is_in class.Quoted) text ≡ true → Ends (is_in class.Quoted) (b ∷ rest)
    → ((more : List ℕ) → length more < suc (length bs) → Lexes line more (tokens line more)) → Lexes line (34 ∷ bs) (tokens line (34 ∷ bs))
quote_at line bs text b rest true e step parts all ended again =
    let here : next line (34 ∷ bs) ≡ Some (token.Text text, rest) = rw e at step in
    let is : b ≡ 34 = eqb-true b 34 e in
    one_more line (34 ∷ bs) (token.Text text) rest here (subst (λ (r : List ℕ). Lexes line (34 ∷ r) (token.Text text ∷ tokens line rest)) (ap (λ (c : ℕ). text ++ (c ∷ rest)) (sym is) ∙ parts) (quoted text all (again rest (next_some line (34 ∷ bs) (token.Text text, rest) here).1)))
quote_at line bs text b rest false e step parts all ended again =
    let here : next line (34 ∷ bs) ≡ Some (token.Bad, []) = rw e at step in
    one_more line (34 ∷ bs) token.Bad [] here (subst (λ (r : List ℕ). Lexes line (34 ∷ r) (token.Bad ∷ tokens line [])) parts (subst (λ (ts : List Token). Lexes line (34 ∷ (text ++ (b ∷ rest))) (token.Bad ∷ ts)) (sym (next_none line [] (next_nil line))) (unclosed text (b ∷ rest) all ended e)))

-- what stands behind the text of a string
quote_by : (line : ℕ) (bs text rest : List ℕ) → next line (34 ∷ bs) ≡ Some (string_token text rest) → text ++ rest ≡ bs → list_all (is_in class.Quoted) text ≡ true → Ends (is_in class.Quoted) rest
    → ((more : List ℕ) → length more < suc (length bs) → Lexes line more (tokens line more)) → Lexes line (34 ∷ bs) (tokens line (34 ∷ bs))
quote_by line bs text [] step parts all ended again =
    one_more line (34 ∷ bs) token.Bad [] step (subst (λ (r : List ℕ). Lexes line (34 ∷ r) (token.Bad ∷ tokens line [])) parts (subst (λ (ts : List Token). Lexes line (34 ∷ (text ++ [])) (token.Bad ∷ ts)) (sym (next_none line [] (next_nil line))) (unclosed text [] all ended tt)))
quote_by line bs text (b ∷ more) step parts all ended again = quote_at line bs text b more (b == 34) refl step parts all ended again

by_begin : (line b : ℕ) (bs : List ℕ) (s : Begin) → is_blank b ≡ false → begin_of b ≡ s → BeginsWith s b → ((rest : List ℕ) → length rest < suc (length bs) → Lexes line rest (tokens line rest)) → Lexes line (b ∷ bs) (tokens line (b ∷ bs))
unfolding token_by
by_begin line b bs begin.Comment h e i again = subst (λ (c : ℕ). Lexes line (c ∷ bs) (tokens line (c ∷ bs))) (sym i) (subst (λ (ts : List Token). Lexes line (35 ∷ bs) ts) (sym (next_none line (35 ∷ bs) (begins line 35 bs begin.Comment refl refl))) (comment bs))
by_begin line b bs begin.Name h e i again =
    let n = front class.Visible bs in
    let rest = past class.Visible bs in
    let step : next line (b ∷ bs) ≡ Some (id_token (b ∷ n), rest) = begins line b bs begin.Name h e in
    let k = name b n h e (front_all (is_in class.Visible) bs) (past_ends (is_in class.Visible) bs) (again rest (next_some line (b ∷ bs) (id_token (b ∷ n), rest) step).1) in
    one_more line (b ∷ bs) (id_token (b ∷ n)) rest step (subst (λ (r : List ℕ). Lexes line (b ∷ r) (id_token (b ∷ n) ∷ tokens line rest)) (take-append-drop (prefix_len (is_in class.Visible) bs) bs) k)
by_begin line b bs begin.Run h e i again =
    let n = front class.Letter bs in
    let rest = past class.Letter bs in
    let step : next line (b ∷ bs) ≡ Some (run_token line (b ∷ n), rest) = begins line b bs begin.Run h e in
    let k = run b n h e (front_all (is_in class.Letter) bs) (past_ends (is_in class.Letter) bs) (again rest (next_some line (b ∷ bs) (run_token line (b ∷ n), rest) step).1) in
    one_more line (b ∷ bs) (run_token line (b ∷ n)) rest step (subst (λ (r : List ℕ). Lexes line (b ∷ r) (run_token line (b ∷ n) ∷ tokens line rest)) (take-append-drop (prefix_len (is_in class.Letter) bs) bs) k)
by_begin line b bs begin.Quote h e i again =
    subst (λ (c : ℕ). Lexes line (c ∷ bs) (tokens line (c ∷ bs))) (sym i)
    (quote_by line bs (front class.Quoted bs) (past class.Quoted bs) (begins line 34 bs begin.Quote refl refl) (take-append-drop (prefix_len (is_in class.Quoted) bs) bs) (front_all (is_in class.Quoted) bs) (past_ends (is_in class.Quoted) bs) again)
by_begin line b bs begin.Open h e i again = subst (λ (c : ℕ). Lexes line (c ∷ bs) (tokens line (c ∷ bs))) (sym i) (one_more line (123 ∷ bs) token.Open bs (begins line 123 bs begin.Open refl refl) (opens (again bs (omega arith))))
by_begin line b bs begin.Close h e i again = subst (λ (c : ℕ). Lexes line (c ∷ bs) (tokens line (c ∷ bs))) (sym i) (one_more line (125 ∷ bs) token.Close bs (begins line 125 bs begin.Close refl refl) (closes (again bs (omega arith))))
by_begin line b bs begin.Semicolon h e i again = subst (λ (c : ℕ). Lexes line (c ∷ bs) (tokens line (c ∷ bs))) (sym i) (one_more line (59 ∷ bs) token.Semicolon bs (begins line 59 bs begin.Semicolon refl refl) (ends (again bs (omega arith))))
by_begin line b bs begin.Nothing h e i again = one_more line (b ∷ bs) token.Bad bs (begins line b bs begin.Nothing h e) (other b h e (again bs (omega arith)))

by_blank : (line b : ℕ) (bs : List ℕ) (t : Bool) → is_blank b ≡ t → ((rest : List ℕ) → length rest < suc (length bs) → Lexes line rest (tokens line rest)) → Lexes line (b ∷ bs) (tokens line (b ∷ bs))
by_blank line b bs true h again = subst (λ (ts : List Token). Lexes line (b ∷ bs) ts) (sym (skips line b bs h)) (blank b h (again bs (omega arith)))
by_blank line b bs false h again = by_begin line b bs (begin_of b) h refl (begins_is b) again

lexes_within : (line n : ℕ) (bs : List ℕ) → length bs ≤ n → Lexes line bs (tokens line bs)
lexes_within line n [] le = subst (λ (ts : List Token). Lexes line [] ts) (sym (next_none line [] (next_nil line))) no_bytes
lexes_within line zero (b ∷ bs) le = absurd (omega arith)
lexes_within line (suc n) (b ∷ bs) le = by_blank line b bs (is_blank b) refl (λ rest lt. lexes_within line n rest (omega arith))

pub are_tokens : (line : ℕ) (bs : List ℕ) → AreTokens line bs
are_tokens line bs = record { lexes = lexes_within line (length bs) bs (omega arith); only = λ ts k. tokens_are line bs ts k }
