-- Printed lines, piece by piece, are read again as their tokens.
use Rattle.std.proofs.Common.{◌≡◌, ℕ, ℤ, Bool, true, false, List, [], ◌∷◌, ◌++◌, map, refl, sym, ap, subst, ◌∙◌, append_assoc, append-nil}
use Rattle.std.specs.Prelude.{◌==◌, if◌then◌else◌}
use Rattle.std.specs.List.{flat_map, list_all}
use Rattle.std.proofs.lemmas.Bool.{eqb-true}
use Rattle.rtlil_lex.specs.declared.token.Token.{Token}
use Rattle.rtlil_lex.specs.declared.token.Token.TheVariants as token
use Rattle.rtlil_lex.specs.Bytes.{is_visible, is_word_byte, is_constant_digit, is_on_line, Ends}
use Rattle.rtlil_lex.specs.Lex.{tokens}
use Rattle.rtlil_lex.specs.Lexes.{Lexes, goes_on, is_flag}
use Rattle.rtlil_lex.specs.Lines.{token_lines}
use Rattle.rtlil_lex.specs.Spelling.{spelling, IsInt, Fits, AllFit, spaced, joins, text_behind, line_text}
use Rattle.rtlil_lex.proofs.Runs.{both, and_is}
use Rattle.rtlil_lex.proofs.Steps.{tokens_nil}
use Rattle.rtlil_lex.proofs.TextLines.{lines_then, lines_nil}
use Rattle.rtlil_lex.proofs.Lexical.{lexes, skips}
use Rattle.rtlil_lex.proofs.Spelled.{Stops, OnLine, tokens_again, token_on_line, on_both}

-- ---- pieces of a line

-- nothing, or a space and more
abbrev pub IsApart : List ℕ → Type 0
IsApart [] = Unit {0}
IsApart (b ∷ bs) = b ≡ 32

apart_ends : (p : ℕ → Bool) → p 32 ≡ false → (rest : List ℕ) → IsApart rest → Ends p rest
apart_ends p h [] a = tt
apart_ends p h (b ∷ bs) a = ap p a ∙ h

pub apart_stops : (t : Token) (rest : List ℕ) → IsApart rest → Stops t rest
apart_stops (token.Id n) rest a = apart_ends is_visible refl rest a
apart_stops (token.Number z) rest a = apart_ends goes_on refl rest a
apart_stops (token.Digits ds) rest a = (apart_ends is_constant_digit refl rest a, apart_ends is_flag refl rest a)
apart_stops (token.Text t) rest a = tt
apart_stops (token.Word w) rest a = apart_ends is_word_byte refl rest a
apart_stops token.OpenBrace rest a = tt
apart_stops token.CloseBrace rest a = tt
apart_stops token.OpenBracket rest a = tt
apart_stops token.CloseBracket rest a = tt
apart_stops token.Colon rest a = tt
apart_stops token.Bad rest a = tt
apart_stops (token.Over seen) rest a = tt

apart_append : (a b : List ℕ) → IsApart a → IsApart b → IsApart (a ++ b)
apart_append [] b p q = q
apart_append (x ∷ a) b p q = p

-- a piece of a line, which begins with a space, is these tokens, whatever piece follows it
pub record Piece (text : List ℕ) (ts : List Token) : Type 0 where
  pub apart : IsApart text
  pub reads : (rest : List ℕ) → IsApart rest → tokens (text ++ rest) ≡ ts ++ tokens rest
  pub on_line : OnLine text

pub piece_none : Piece [] []
piece_none = record { apart = tt; reads = λ rest a. refl; on_line = refl }

pub piece_then : (a b : List ℕ) (x y : List Token) → Piece a x → Piece b y → Piece (a ++ b) (x ++ y)
piece_then a b x y p q = record {
  apart = apart_append a b p.apart q.apart;
  reads = λ rest h. ap tokens (append_assoc a b rest) ∙ p.reads (b ++ rest) (apart_append b rest q.apart h) ∙ ap (λ (z : List Token). x ++ z) (q.reads rest h) ∙ sym (append_assoc x y (tokens rest));
  on_line = on_both a b p.on_line q.on_line;
}

-- a space and a token
pub piece_token : (t : Token) → Fits t → Piece (spaced t) (t ∷ [])
piece_token t f = record {
  apart = refl;
  reads = λ rest h. skips 32 (spelling t ++ rest) refl ∙ tokens_again t rest f (apart_stops t rest h);
  on_line = token_on_line t f;
}

-- a piece for each of some values
abbrev pub AllOf : {X : Type 0} → (X → Type 0) → List X → Type 0
AllOf P [] = Unit {0}
AllOf P (x ∷ xs) = P x × AllOf P xs

pub piece_all : {X : Type 0} (text : X → List ℕ) (of : X → List Token) (P : X → Type 0) → ((x : X) → P x → Piece (text x) (of x)) → (xs : List X) → AllOf P xs → Piece (flat_map text xs) (flat_map of xs)
piece_all text of P each [] h = piece_none
piece_all text of P each (x ∷ xs) h = piece_then (text x) (flat_map text xs) (of x) (flat_map of xs) (each x h.0) (piece_all text of P each xs h.1)

-- tokens, each with a space before it
all_of : (ts : List Token) → AllFit ts → AllOf Fits ts
all_of [] f = tt
all_of (t ∷ ts) f = (f.0, all_of ts f.1)

each_one : (ts : List Token) → flat_map (λ t. t ∷ []) ts ≡ ts
each_one [] = refl
each_one (t ∷ ts) = ap (λ (z : List Token). t ∷ z) (each_one ts)

pub piece_tokens : (ts : List Token) → AllFit ts → Piece (flat_map spaced ts) ts
piece_tokens ts f = subst (λ (z : List Token). Piece (flat_map spaced ts) z) (each_one ts) (piece_all spaced (λ t. t ∷ []) Fits piece_token ts (all_of ts f))

-- ---- [h] and [h:l]

abbrev pub index_text : ℤ → List ℕ
index_text h = 91 ∷ (spelling (token.Number h) ++ 93 ∷ [])

abbrev pub range_text : ℤ → ℤ → List ℕ
range_text h l = 91 ∷ (spelling (token.Number h) ++ 58 ∷ (spelling (token.Number l) ++ 93 ∷ []))

single_then : (t : Token) (rest : List ℕ) (ts : List Token) → Fits t → Stops t rest → tokens rest ≡ ts → tokens (spelling t ++ rest) ≡ t ∷ ts
single_then t rest ts f s e = tokens_again t rest f s ∙ ap (λ (z : List Token). t ∷ z) e

close_again : (rest : List ℕ) → tokens (93 ∷ rest) ≡ token.CloseBracket ∷ tokens rest
unfolding spelling
close_again rest = tokens_again token.CloseBracket rest tt tt

open_again : (rest : List ℕ) → tokens (91 ∷ rest) ≡ token.OpenBracket ∷ tokens rest
unfolding spelling
open_again rest = tokens_again token.OpenBracket rest tt tt

colon_again : (rest : List ℕ) → tokens (58 ∷ rest) ≡ token.Colon ∷ tokens rest
unfolding spelling
colon_again rest = tokens_again token.Colon rest tt tt

last_again : (z : ℤ) (rest : List ℕ) → IsInt z → tokens ((spelling (token.Number z) ++ 93 ∷ []) ++ rest) ≡ token.Number z ∷ token.CloseBracket ∷ tokens rest
last_again z rest f = ap tokens (append_assoc (spelling (token.Number z)) (93 ∷ []) rest) ∙ single_then (token.Number z) (93 ∷ rest) _ f refl (close_again rest)

number_line : (z : ℤ) → IsInt z → OnLine (spelling (token.Number z))
number_line z f = token_on_line (token.Number z) f

pub piece_index : (h : ℤ) → IsInt h → Piece (32 ∷ index_text h) (token.OpenBracket ∷ token.Number h ∷ token.CloseBracket ∷ [])
piece_index h f = record {
  apart = refl;
  reads = λ rest a. skips 32 (index_text h ++ rest) refl ∙ open_again ((spelling (token.Number h) ++ 93 ∷ []) ++ rest) ∙ ap (λ (z : List Token). token.OpenBracket ∷ z) (last_again h rest f);
  on_line = on_both (spelling (token.Number h)) (93 ∷ []) (number_line h f) refl;
}

pub piece_range : (h l : ℤ) → IsInt h → IsInt l → Piece (32 ∷ range_text h l) (token.OpenBracket ∷ token.Number h ∷ token.Colon ∷ token.Number l ∷ token.CloseBracket ∷ [])
piece_range h l f g =
    let low = spelling (token.Number l) ++ 93 ∷ [] in
    let more : (rest : List ℕ) → tokens (((spelling (token.Number h)) ++ 58 ∷ low) ++ rest) ≡ token.Number h ∷ token.Colon ∷ token.Number l ∷ token.CloseBracket ∷ tokens rest =
    λ rest. ap tokens (append_assoc (spelling (token.Number h)) (58 ∷ low) rest) ∙ single_then (token.Number h) (58 ∷ (low ++ rest)) _ f refl (colon_again (low ++ rest) ∙ ap (λ (z : List Token). token.Colon ∷ z) (last_again l rest g)) in
    record {
      apart = refl;
      reads = λ rest a. skips 32 (range_text h l ++ rest) refl ∙ open_again ((spelling (token.Number h) ++ 58 ∷ low) ++ rest) ∙ ap (λ (z : List Token). token.OpenBracket ∷ z) (more rest);
      on_line = on_both (spelling (token.Number h)) (58 ∷ low) (number_line h f) (on_both (spelling (token.Number l)) (93 ∷ []) (number_line l g) refl);
    }

-- ---- lines

-- a text whose lines are these, whatever follows
pub record Printed (text : List ℕ) (tss : List (List Token)) : Type 0 where
  pub reads : (rest : List ℕ) → token_lines (text ++ rest) ≡ tss ++ token_lines rest

pub printed_none : Printed [] []
printed_none = record { reads = λ rest. refl }

pub printed_then : (a b : List ℕ) (x y : List (List Token)) → Printed a x → Printed b y → Printed (a ++ b) (x ++ y)
printed_then a b x y p q = record {
  reads = λ rest. ap token_lines (append_assoc a b rest) ∙ p.reads (b ++ rest) ∙ ap (λ (z : List (List Token)). x ++ z) (q.reads rest) ∙ sym (append_assoc x y (token_lines rest));
}

pub printed_all : {X : Type 0} (text : X → List ℕ) (of : X → List (List Token)) (P : X → Type 0) → ((x : X) → P x → Printed (text x) (of x)) → (xs : List X) → AllOf P xs → Printed (flat_map text xs) (flat_map of xs)
printed_all text of P each [] h = printed_none
printed_all text of P each (x ∷ xs) h = printed_then (text x) (flat_map text xs) (of x) (flat_map of xs) (each x h.0) (printed_all text of P each xs h.1)

-- a line of these bytes, and its line feed
pub printed_bytes : (line : List ℕ) (ts : List Token) → OnLine line → tokens line ≡ ts → Printed (line ++ 10 ∷ []) (ts ∷ [])
printed_bytes line ts on e = record {
  reads = λ rest. ap token_lines (append_assoc line (10 ∷ []) rest) ∙ ap (map tokens) (lines_then line rest on) ∙ ap (λ (z : List Token). z ∷ token_lines rest) e;
}

abbrev pub AreSpaces : List ℕ → Type 0
AreSpaces bs = list_all (λ b. b == 32) bs ≡ true

indented : (indent body : List ℕ) → AreSpaces indent → tokens (indent ++ body) ≡ tokens body
indented [] body h = refl
indented (b ∷ indent) body h =
    let k = both (b == 32) (list_all (λ b. b == 32) indent) h in
    ap (λ (x : ℕ). tokens (x ∷ (indent ++ body))) (eqb-true b 32 k.0) ∙ skips 32 (indent ++ body) refl ∙ indented indent body k.1

spaces_on_line : (indent : List ℕ) → AreSpaces indent → OnLine indent
spaces_on_line [] h = refl
spaces_on_line (b ∷ indent) h =
    let k = both (b == 32) (list_all (λ b. b == 32) indent) h in
    and_is _ _ (ap is_on_line (eqb-true b 32 k.0)) (spaces_on_line indent k.1)

-- a piece behind spaces, without the piece's own
pub printed_line : (indent body : List ℕ) (ts : List Token) → AreSpaces indent → Piece (32 ∷ body) ts → Printed ((indent ++ body) ++ 10 ∷ []) (ts ∷ [])
printed_line indent body ts h p =
    let inside : tokens body ≡ ts = sym (skips 32 body refl) ∙ ap (λ (z : List ℕ). tokens (32 ∷ z)) (sym (append-nil body)) ∙ p.reads [] tt ∙ ap (λ (z : List Token). ts ++ z) tokens_nil ∙ append-nil ts in
    printed_bytes (indent ++ body) ts (on_both indent body (spaces_on_line indent h) p.on_line) (indented indent body h ∙ inside)

-- nothing follows
pub printed_whole : (text : List ℕ) (tss : List (List Token)) → Printed text tss → token_lines text ≡ tss ++ [] ∷ []
printed_whole text tss p =
    let none : token_lines [] ≡ [] ∷ [] = ap (map tokens) lines_nil ∙ ap (λ (z : List Token). z ∷ []) tokens_nil in
    ap token_lines (sym (append-nil text)) ∙ p.reads [] ∙ ap (λ (z : List (List Token)). tss ++ z) none

-- ---- a line of tokens

joined_stops : (t u : Token) (rest : List ℕ) → joins t u ≡ true → Stops t (spelling u ++ rest)
unfolding spelling
joined_stops (token.Id n) u rest e = absurd cc
joined_stops (token.Number z) (token.Id n) rest e = absurd cc
joined_stops (token.Number z) (token.Number y) rest e = absurd cc
joined_stops (token.Number z) (token.Digits ds) rest e = absurd cc
joined_stops (token.Number z) (token.Text t) rest e = absurd cc
joined_stops (token.Number z) (token.Word w) rest e = absurd cc
joined_stops (token.Number z) token.OpenBrace rest e = absurd cc
joined_stops (token.Number z) token.CloseBrace rest e = absurd cc
joined_stops (token.Number z) token.OpenBracket rest e = absurd cc
joined_stops (token.Number z) token.CloseBracket rest e = refl
joined_stops (token.Number z) token.Colon rest e = refl
joined_stops (token.Number z) token.Bad rest e = absurd cc
joined_stops (token.Number z) (token.Over seen) rest e = absurd cc
joined_stops (token.Digits ds) u rest e = absurd cc
joined_stops (token.Text t) u rest e = tt
joined_stops (token.Word w) u rest e = absurd cc
joined_stops token.OpenBrace u rest e = tt
joined_stops token.CloseBrace u rest e = tt
joined_stops token.OpenBracket u rest e = tt
joined_stops token.CloseBracket u rest e = tt
joined_stops token.Colon u rest e = tt
joined_stops token.Bad u rest e = tt
joined_stops (token.Over seen) u rest e = tt

stops_by : (t u : Token) (rest : List ℕ) (b : Bool) → joins t u ≡ b → Stops t ((if b then spelling u else spaced u) ++ rest)
stops_by t u rest true e = joined_stops t u rest e
stops_by t u rest false e = apart_stops t (spaced u ++ rest) refl

behind_stops : (t : Token) (ts : List Token) → Stops t (text_behind t ts)
unfolding text_behind
behind_stops t [] = apart_stops t [] tt
behind_stops t (u ∷ ts) = stops_by t u (text_behind u ts) (joins t u) refl

behind_by : (u : Token) (rest : List ℕ) (b : Bool) → tokens ((if b then spelling u else spaced u) ++ rest) ≡ tokens (spelling u ++ rest)
behind_by u rest true = refl
behind_by u rest false = skips 32 (spelling u ++ rest) refl

behind_again : (t : Token) (ts : List Token) → AllFit ts → tokens (text_behind t ts) ≡ ts
unfolding text_behind
behind_again t [] f = tokens_nil
behind_again t (u ∷ ts) f = behind_by u (text_behind u ts) (joins t u) ∙ single_then u (text_behind u ts) ts f.0 (behind_stops u ts) (behind_again u ts f.1)

-- the printed form of a line is read as its tokens
pub line_again : (ts : List Token) → AllFit ts → tokens (line_text ts) ≡ ts
unfolding line_text
line_again [] f = tokens_nil
line_again (t ∷ ts) f = single_then t (text_behind t ts) ts f.0 (behind_stops t ts) (behind_again t ts f.1)

pub line_lexes : (ts : List Token) → AllFit ts → Lexes (line_text ts) ts
line_lexes ts f = subst (λ (us : List Token). Lexes (line_text ts) us) (line_again ts f) (lexes (line_text ts))
