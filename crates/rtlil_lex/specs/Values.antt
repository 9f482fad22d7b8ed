-- What a token stands for: the numbers and digits that bytes spell, and the token of each run of bytes.
use Rattle.std.specs.Prelude.{ℕ, zero, suc, ℤ, pos, negsuc, ◌+◌, ◌-◌, ◌*◌, ◌%◌, ◌^◌, List, [], ◌∷◌, ◌++◌, length, drop, replicate, nat_lt, nat_le, ◌==◌, if◌then◌else◌, codes}
use Rattle.std.specs.Str.{bytes_eq}
use Rattle.rtlil_lex.specs.declared.token.Digit.{Digit}
use Rattle.rtlil_lex.specs.declared.token.Digit.TheVariants as digit
use Rattle.rtlil_lex.specs.declared.token.Token.{Token}
use Rattle.rtlil_lex.specs.declared.token.Token.TheVariants as token
use Rattle.rtlil_lex.specs.declared.token.Word.{Word}
use Rattle.rtlil_lex.specs.declared.token.Word.TheVariants as word

-- ---- identifiers and words

-- an identifier of these bytes: it has at least one byte behind its \ or $
abbrev pub identifier_token : List ℕ → Token
identifier_token bs = if nat_lt (length bs) 2 then token.Bad else token.Id bs

unfoldable pub word_of : List ℕ → Word
word_of bs =
    if bytes_eq bs (codes "autoidx") then word.Autoidx
    else (if bytes_eq bs (codes "module") then word.Module
    else (if bytes_eq bs (codes "end") then word.End
    else (if bytes_eq bs (codes "attribute") then word.Attribute
    else (if bytes_eq bs (codes "parameter") then word.Parameter
    else (if bytes_eq bs (codes "signed") then word.Signed
    else (if bytes_eq bs (codes "real") then word.Real
    else (if bytes_eq bs (codes "wire") then word.Wire
    else (if bytes_eq bs (codes "width") then word.Width
    else (if bytes_eq bs (codes "offset") then word.Offset
    else (if bytes_eq bs (codes "input") then word.Input
    else (if bytes_eq bs (codes "output") then word.Output
    else (if bytes_eq bs (codes "inout") then word.Inout
    else (if bytes_eq bs (codes "upto") then word.Upto
    else (if bytes_eq bs (codes "memory") then word.Memory
    else (if bytes_eq bs (codes "size") then word.Size
    else (if bytes_eq bs (codes "cell") then word.Cell
    else (if bytes_eq bs (codes "connect") then word.Connect
    else (if bytes_eq bs (codes "process") then word.Process
    else word.Other))))))))))))))))))

-- ---- numbers

-- the number that decimal digits spell behind another
unfoldable pub value_from : ℕ → List ℕ → ℕ
value_from n [] = n
value_from n (b ∷ bs) = value_from (10 * n + (b - 48)) bs

abbrev pub value_of : List ℕ → ℕ
value_of bs = value_from 0 bs

abbrev pub negative : ℕ → ℤ
negative zero = pos 0
negative (suc n) = negsuc n

-- a number fits 32 bits with a sign
abbrev pub number_token : ℕ → Token
number_token n = if nat_lt n (2 ^ 31) then token.Number (pos n) else token.Bad

-- the same behind a -
abbrev pub negative_token : ℕ → Token
negative_token n = if nat_le n (2 ^ 31) then token.Number (negative n) else token.Bad

-- ---- constants

-- m counts as x
abbrev pub digit_of : ℕ → Digit
digit_of b = if b == 48 then digit.Zero else (if b == 49 then digit.One else (if b == 122 then digit.Z else (if b == 45 then digit.Dash else digit.X)))

-- what stands before digits that are fewer than the width: x, z or - where they begin with it, and x where there are none
abbrev pub filler : List Digit → Digit
filler [] = digit.X
filler (digit.Zero ∷ ds) = digit.Zero
filler (digit.One ∷ ds) = digit.Zero
filler (digit.X ∷ ds) = digit.X
filler (digit.Z ∷ ds) = digit.Z
filler (digit.Dash ∷ ds) = digit.Dash

-- as many digits as the width: filled on the left, or without the surplus there
unfoldable pub fit : ℕ → List Digit → List Digit
fit width ds = replicate (width - length ds) (filler ds) ++ drop (length ds - width) ds

abbrev pub constant_token : ℕ → List Digit → Token
constant_token width ds = token.Digits (fit width ds)

-- ---- strings

-- what a byte behind a \ stands for: a line feed for n, a tab for t, and itself otherwise
abbrev pub unescaped : ℕ → ℕ
unescaped b = if b == 110 then 10 else (if b == 116 then 9 else b)

-- the byte that three octal digits spell
abbrev pub octal_byte : ℕ → ℕ → ℕ → ℕ
octal_byte a b c = (64 * (a - 48) + 8 * (b - 48) + (c - 48)) % 256

-- ---- bytes that stand alone

-- a bracket, a brace or a colon; any other byte is no token
abbrev pub single_token : ℕ → Token
single_token b =
    if b == 123 then token.OpenBrace
    else (if b == 125 then token.CloseBrace
    else (if b == 91 then token.OpenBracket
    else (if b == 93 then token.CloseBracket
    else (if b == 58 then token.Colon
    else token.Bad))))
