-- The tokens of a line, from left to right.
use Rattle.std.specs.Prelude.{ℕ, zero, suc, ◌+◌, ◌-◌, ◌*◌, ◌^◌, Bool, List, [], ◌∷◌, length, take, drop, Option, Some, None, nat_lt, ◌==◌, nat_le, if◌then◌else◌, ◌&&◌, ◌||◌, not, codes}
use Rattle.std.specs.List.{list_all, prefix_len}
use Rattle.std.specs.Str.{bytes_eq}
use Rattle.lib_tree.specs.declared.lex.Begin.{Begin}
use Rattle.lib_tree.specs.declared.lex.Begin.TheVariants as begin
use Rattle.lib_tree.specs.declared.lex.Class.{Class}
use Rattle.lib_tree.specs.declared.lex.Class.TheVariants as class
use Rattle.lib_tree.specs.declared.token.Token.{Token}
use Rattle.lib_tree.specs.declared.token.Token.TheVariants as token
use Rattle.lib_tree.specs.Words.{word_of}

-- space, tab and carriage return
abbrev pub is_blank : ℕ → Bool
is_blank b = b == 32 || b == 9 || b == 13

abbrev pub is_digit : ℕ → Bool
is_digit b = nat_le 48 b && nat_le b 57

-- a letter, a digit or _
abbrev pub is_letter : ℕ → Bool
is_letter b = is_digit b || (nat_le 97 b && nat_le b 122) || (nat_le 65 b && nat_le b 90) || b == 95

-- a byte of white space, of an identifier, of a string, of a word or number, of a line
abbrev pub is_in : Class → ℕ → Bool
is_in class.Blank b = is_blank b
is_in class.Visible b = not (is_blank b)
is_in class.Quoted b = not (is_blank b || b == 34)
is_in class.Letter b = is_letter b
is_in class.Line b = not (b == 10)

-- the bytes at the front that belong to a class, and what follows them
abbrev pub front : Class → List ℕ → List ℕ
front c bs = take (prefix_len (is_in c) bs) bs

abbrev pub past : Class → List ℕ → List ℕ
past c bs = drop (prefix_len (is_in c) bs) bs

-- the number that decimal digits spell behind another
unfoldable pub number_from : ℕ → List ℕ → ℕ
number_from n [] = n
number_from n (b ∷ bs) = number_from (10 * n + (b - 48)) bs

-- the number that digits spell, where it is below 2 ^ 32
unfoldable pub number_in : List ℕ → Option ℕ
number_in bs = if nat_lt (number_from 0 bs) (2 ^ 32) then Some (number_from 0 bs) else None

abbrev pub number_token : Option ℕ → Token
number_token None = token.Large
number_token (Some n) = token.Number n

-- letters, digits and _ are a number where all are digits, and a word otherwise
unfoldable pub run_token : ℕ → List ℕ → Token
run_token line bs =
    if bytes_eq bs (codes "ram") then token.Ram line
    else (if list_all is_digit bs then number_token (number_in bs) else token.Word (word_of bs))

-- an identifier has a byte behind its first
abbrev pub id_token : List ℕ → Token
id_token bs = if nat_lt (length bs) 2 then token.Bad else token.Id bs

-- what follows the text of a string is its closing quote
abbrev pub string_token : List ℕ → List ℕ → Token × List ℕ
string_token text [] = (token.Bad, [])
string_token text (b ∷ bs) = if b == 34 then (token.Text text, bs) else (token.Bad, [])

-- what begins at a byte that is no blank
abbrev pub begin_of : ℕ → Begin
begin_of b = if b == 35 then begin.Comment else (if b == 92 || b == 36 then begin.Name else (if b == 34 then begin.Quote else (if b == 123 then begin.Open else (if b == 125 then begin.Close else (if b == 59 then begin.Semicolon else (if is_letter b then begin.Run else begin.Nothing))))))

unfoldable pub token_by : ℕ → Begin → ℕ → List ℕ → Option (Token × List ℕ)
token_by line begin.Comment b bs = None
token_by line begin.Name b bs = Some (id_token (b ∷ front class.Visible bs), past class.Visible bs)
token_by line begin.Quote b bs = Some (string_token (front class.Quoted bs) (past class.Quoted bs))
token_by line begin.Open b bs = Some (token.Open, bs)
token_by line begin.Close b bs = Some (token.Close, bs)
token_by line begin.Semicolon b bs = Some (token.Semicolon, bs)
token_by line begin.Run b bs = Some (run_token line (b ∷ front class.Letter bs), past class.Letter bs)
token_by line begin.Nothing b bs = Some (token.Bad, bs)

-- the token that a line goes on with at a byte that is no blank, and what follows it
unfoldable pub token_at : ℕ → List ℕ → Option (Token × List ℕ)
token_at line [] = None
token_at line (b ∷ bs) = token_by line (begin_of b) b bs

unfoldable pub next : ℕ → List ℕ → Option (Token × List ℕ)
next line bs = token_at line (past class.Blank bs)

-- a token, and what a reader finds behind it
abbrev pub and_then : Option (Token × List ℕ) → (List ℕ → List Token) → List Token
and_then None f = []
and_then (Some x) f = x.0 ∷ f x.1

-- the tokens of a line of at most n bytes
unfoldable pub tokens_in : ℕ → ℕ → List ℕ → List Token
tokens_in line zero bs = []
tokens_in line (suc n) bs = and_then (next line bs) (λ rest. tokens_in line n rest)

-- the tokens of a line
unfoldable pub tokens : ℕ → List ℕ → List Token
tokens line bs = tokens_in line (length bs) bs
