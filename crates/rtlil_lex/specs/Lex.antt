-- The tokens of a line, computed from left to right; `Lexes` says which they are.
use Rattle.std.specs.Prelude.{ℕ, zero, suc, List, [], ◌∷◌, ◌++◌, length, take, drop, map, Option, Some, None, ◌==◌, if◌then◌else◌}
use Rattle.std.specs.List.{prefix_len}
use Rattle.rtlil_lex.specs.declared.bytes.Class.{Class}
use Rattle.rtlil_lex.specs.declared.bytes.Class.TheVariants as class
use Rattle.rtlil_lex.specs.declared.bytes.Start.{Start}
use Rattle.rtlil_lex.specs.declared.bytes.Start.TheVariants as start
use Rattle.rtlil_lex.specs.declared.string.Place.{Place}
use Rattle.rtlil_lex.specs.declared.string.Place.TheVariants as place
use Rattle.rtlil_lex.specs.declared.token.Token.{Token}
use Rattle.rtlil_lex.specs.declared.token.Token.TheVariants as token
use Rattle.rtlil_lex.specs.Bytes.{is_in, is_octal, start_of}
use Rattle.rtlil_lex.specs.Values.{identifier_token, word_of, value_of, number_token, negative_token, digit_of, constant_token, unescaped, octal_byte, single_token}

-- the bytes at the front that belong to a class, and what follows them
abbrev pub front : Class → List ℕ → List ℕ
front c bs = take (prefix_len (is_in c) bs) bs

abbrev pub past : Class → List ℕ → List ℕ
past c bs = drop (prefix_len (is_in c) bs) bs

-- ---- strings

-- what a string gains by a byte, and where its reader stands behind it; nowhere behind the closing quote
abbrev pub plain_step : ℕ → List ℕ × Option Place
plain_step b = if b == 34 then ([], None) else (if b == 92 then ([], Some place.Escape) else (b ∷ [], Some place.Plain))

abbrev pub with_byte : ℕ → List ℕ × Option Place → List ℕ × Option Place
with_byte b step = (b ∷ step.0, step.1)

abbrev pub string_step : Place → ℕ → List ℕ × Option Place
string_step place.Plain b = plain_step b
string_step place.Escape b = if is_octal b then ([], Some (place.One b)) else (unescaped b ∷ [], Some place.Plain)
string_step (place.One a) b = if is_octal b then ([], Some (place.Two a b)) else with_byte (octal_byte 48 48 a) (plain_step b)
string_step (place.Two a c) b = if is_octal b then (octal_byte a c b ∷ [], Some place.Plain) else with_byte (octal_byte 48 a c) (plain_step b)

abbrev pub with_front : List ℕ → Option (List ℕ × List ℕ) → Option (List ℕ × List ℕ)
with_front bytes None = None
with_front bytes (Some x) = Some (bytes ++ x.0, x.1)

-- a string behind a place in it, and what follows its closing quote, where there is one
unfoldable pub string_at : Place → List ℕ → Option (List ℕ × List ℕ)
string_at p [] = None
string_at p (b ∷ bs) = with_front (string_step p b).0 (elim (string_step p b).1 [ None ↦ Some ([], bs) | Some q ↦ string_at q bs ])

-- a token, and what follows it
abbrev pub string_or_bad : Option (List ℕ × List ℕ) → Token × List ℕ
string_or_bad None = (token.Bad, [])
string_or_bad (Some x) = (token.Text x.0, x.1)

-- ---- numbers and constants

abbrev pub without_flag : List ℕ → List ℕ
without_flag [] = []
without_flag (b ∷ bs) = if b == 115 then bs else b ∷ bs

abbrev pub constant_at : ℕ → List ℕ → Token × List ℕ
constant_at width bs = (constant_token width (map digit_of (front class.ConstantDigit bs)), past class.ConstantDigit bs)

-- what decimal digits are before what follows them
abbrev pub number_at : List ℕ → List ℕ → Token × List ℕ
number_at ds [] = (number_token (value_of ds), [])
number_at ds (b ∷ bs) = if b == 39 then constant_at (value_of ds) (without_flag bs) else (number_token (value_of ds), b ∷ bs)

abbrev pub negative_at : List ℕ → List ℕ → Token × List ℕ
negative_at [] rest = (token.Bad, rest)
negative_at (d ∷ ds) rest = (negative_token (value_of (d ∷ ds)), rest)

-- ---- lines

-- the token at a byte by what begins there, and what follows it
unfoldable pub token_by : Start → ℕ → List ℕ → Option (Token × List ℕ)
token_by start.Blank b bs = None
token_by start.Comment b bs = None
token_by start.Identifier b bs = Some (identifier_token (b ∷ front class.Visible bs), past class.Visible bs)
token_by start.Quote b bs = Some (string_or_bad (string_at place.Plain bs))
token_by start.Minus b bs = Some (negative_at (front class.Decimal bs) (past class.Decimal bs))
token_by start.Decimal b bs = Some (number_at (b ∷ front class.Decimal bs) (past class.Decimal bs))
token_by start.Letter b bs = Some (token.Word (word_of (b ∷ front class.WordByte bs)), past class.WordByte bs)
token_by start.Single b bs = Some (single_token b, bs)

unfoldable pub token_at : List ℕ → Option (Token × List ℕ)
token_at [] = None
token_at (b ∷ bs) = token_by (start_of b) b bs

-- the first token behind white space, and what follows it
unfoldable pub next : List ℕ → Option (Token × List ℕ)
next bs = token_at (past class.Blank bs)

abbrev pub and_then : Option (Token × List ℕ) → (List ℕ → List Token) → List Token
and_then None f = []
and_then (Some x) f = x.0 ∷ f x.1

-- the first n tokens of a line
unfoldable pub tokens_in : ℕ → List ℕ → List Token
tokens_in zero bs = []
tokens_in (suc n) bs = and_then (next bs) (λ rest. tokens_in n rest)

-- there are no more tokens than bytes
unfoldable pub tokens : List ℕ → List Token
tokens bs = tokens_in (length bs) bs
