-- How a token is printed, and which tokens have a printed form.
use Rattle.std.specs.Prelude.{◌≡◌, ◌≢◌, ◌<◌, ◌≤◌, ℕ, zero, suc, ℤ, pos, negsuc, ◌+◌, ◌/◌, ◌%◌, ◌^◌, Bool, true, false, List, [], ◌∷◌, ◌++◌, length, map, nat_lt, ◌==◌, ◌||◌, if◌then◌else◌, codes}
use Rattle.std.specs.List.{flat_map, list_all}
use Rattle.rtlil_lex.specs.declared.token.Digit.{Digit}
use Rattle.rtlil_lex.specs.declared.token.Digit.TheVariants as digit
use Rattle.rtlil_lex.specs.declared.token.Token.{Token}
use Rattle.rtlil_lex.specs.declared.token.Token.TheVariants as token
use Rattle.rtlil_lex.specs.declared.token.Word.{Word}
use Rattle.rtlil_lex.specs.declared.token.Word.TheVariants as word
use Rattle.rtlil_lex.specs.Bytes.{is_visible, begins_identifier, is_on_line}

abbrev pub digit_byte : Digit → ℕ
digit_byte digit.Zero = 48
digit_byte digit.One = 49
digit_byte digit.X = 120
digit_byte digit.Z = 122
digit_byte digit.Dash = 45

-- the last k digits at most of a number in decimal
unfoldable pub numeral_in : ℕ → ℕ → List ℕ
numeral_in zero n = []
numeral_in (suc k) n = if nat_lt n 10 then (48 + n) ∷ [] else numeral_in k (n / 10) ++ (48 + n % 10) ∷ []

-- a number in decimal
unfoldable pub numeral : ℕ → List ℕ
numeral n = numeral_in (n + 1) n

-- the same with a - before it where it is negative
abbrev pub signed_numeral : ℤ → List ℕ
signed_numeral (pos n) = numeral n
signed_numeral (negsuc n) = 45 ∷ numeral (n + 1)

-- a byte as three octal digits
abbrev pub octal_digits : ℕ → List ℕ
octal_digits b = (48 + b / 64) ∷ (48 + b / 8 % 8) ∷ (48 + b % 8) ∷ []

-- a byte in a string: \" \\ \n \t, three octal digits for the other bytes below 32 and for 127, and itself otherwise
abbrev pub escape : ℕ → List ℕ
escape b =
    if b == 34 then 92 ∷ 34 ∷ []
    else (if b == 92 then 92 ∷ 92 ∷ []
    else (if b == 10 then 92 ∷ 110 ∷ []
    else (if b == 9 then 92 ∷ 116 ∷ []
    else (if nat_lt b 32 || b == 127 then 92 ∷ octal_digits b
    else b ∷ []))))

abbrev pub word_text : Word → List ℕ
word_text word.Autoidx = codes "autoidx"
word_text word.Module = codes "module"
word_text word.End = codes "end"
word_text word.Attribute = codes "attribute"
word_text word.Parameter = codes "parameter"
word_text word.Signed = codes "signed"
word_text word.Real = codes "real"
word_text word.Wire = codes "wire"
word_text word.Width = codes "width"
word_text word.Offset = codes "offset"
word_text word.Input = codes "input"
word_text word.Output = codes "output"
word_text word.Inout = codes "inout"
word_text word.Upto = codes "upto"
word_text word.Memory = codes "memory"
word_text word.Size = codes "size"
word_text word.Cell = codes "cell"
word_text word.Connect = codes "connect"
word_text word.Process = codes "process"
word_text word.Other = []

unfoldable pub spelling : Token → List ℕ
spelling (token.Id n) = n
spelling (token.Number z) = signed_numeral z
spelling (token.Digits ds) = numeral (length ds) ++ 39 ∷ map digit_byte ds
spelling (token.Text t) = 34 ∷ flat_map escape t ++ 34 ∷ []
spelling (token.Word w) = word_text w
spelling token.OpenBrace = codes "{"
spelling token.CloseBrace = codes "}"
spelling token.OpenBracket = codes "["
spelling token.CloseBracket = codes "]"
spelling token.Colon = codes ":"
spelling token.Bad = []
spelling (token.Over seen) = []

-- the first byte is one of these
abbrev pub Begins : (ℕ → Bool) → List ℕ → Type 0
Begins p [] = ⊥
Begins p (b ∷ bs) = p b ≡ true

-- an identifier as it stands in a text: \ or $ and at least one more byte, without white space and line feeds
pub record IsIdentifier (n : List ℕ) : Type 0 where
  pub begins : Begins begins_identifier n
  pub long : 2 ≤ length n
  pub visible : list_all is_visible n ≡ true
  pub on_line : list_all is_on_line n ≡ true

-- what 32 bits hold, with a sign
abbrev pub IsInt : ℤ → Type 0
IsInt (pos n) = n < 2 ^ 31
IsInt (negsuc n) = n < 2 ^ 31

-- the token has a printed form, and is read from it
abbrev pub Fits : Token → Type 0
Fits (token.Id n) = IsIdentifier n
Fits (token.Number z) = IsInt z
Fits (token.Digits ds) = Unit {0}
Fits (token.Text t) = Unit {0}
Fits (token.Word w) = w ≢ word.Other
Fits token.OpenBrace = Unit {0}
Fits token.CloseBrace = Unit {0}
Fits token.OpenBracket = Unit {0}
Fits token.CloseBracket = Unit {0}
Fits token.Colon = Unit {0}
Fits token.Bad = ⊥
Fits (token.Over seen) = ⊥

abbrev pub AllFit : List Token → Type 0
AllFit [] = Unit {0}
AllFit (t ∷ ts) = Fits t × AllFit ts

-- no fault, and a word that is known
abbrev pub IsKnown : Token → Type 0
IsKnown (token.Id n) = Unit {0}
IsKnown (token.Number z) = Unit {0}
IsKnown (token.Digits ds) = Unit {0}
IsKnown (token.Text t) = Unit {0}
IsKnown (token.Word w) = w ≢ word.Other
IsKnown token.OpenBrace = Unit {0}
IsKnown token.CloseBrace = Unit {0}
IsKnown token.OpenBracket = Unit {0}
IsKnown token.CloseBracket = Unit {0}
IsKnown token.Colon = Unit {0}
IsKnown token.Bad = ⊥
IsKnown (token.Over seen) = ⊥

-- each known token has a printed form
abbrev pub KnownFit : List Token → Type 0
KnownFit [] = Unit {0}
KnownFit (t ∷ ts) = (IsKnown t → Fits t) × KnownFit ts

abbrev pub AllKnownFit : List (List Token) → Type 0
AllKnownFit [] = Unit {0}
AllKnownFit (ts ∷ tss) = KnownFit ts × AllKnownFit tss

-- a token with a space before it
abbrev pub spaced : Token → List ℕ
spaced t = 32 ∷ spelling t

-- whether no space stands between two tokens: in [h] and in [h:l]
abbrev pub joins : Token → Token → Bool
joins token.OpenBracket (token.Number n) = true
joins (token.Number n) token.Colon = true
joins token.Colon (token.Number n) = true
joins (token.Number n) token.CloseBracket = true
joins t u = false

-- tokens behind another one, on its line
unfoldable pub text_behind : Token → List Token → List ℕ
text_behind t [] = []
text_behind t (u ∷ ts) = (if joins t u then spelling u else spaced u) ++ text_behind u ts

-- the tokens of a line, one space apart but for the inside of [h] and [h:l]
unfoldable pub line_text : List Token → List ℕ
line_text [] = []
line_text (t ∷ ts) = spelling t ++ text_behind t ts
