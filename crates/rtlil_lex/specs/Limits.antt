-- The limits of this program: which tokens are longer than it reads.
use Rattle.std.specs.Prelude.{ℕ, ◌+◌, List, length, nat_lt, if◌then◌else◌}
use Rattle.rtlil_lex.specs.declared.token.Token.{Token}
use Rattle.rtlil_lex.specs.declared.token.Token.TheVariants as token

-- the most bytes of an identifier, with its first one, and of a string, after its escapes
abbrev pub longest_text : ℕ
longest_text = 65536

-- the most digits of a constant, as many as its width says
abbrev pub widest_constant : ℕ
widest_constant = 4194304

abbrev pub over : ℕ → Token
over limit = token.Over (limit + 1)

-- a token as this program reads it
abbrev pub limited : Token → Token
limited (token.Id n) = if nat_lt longest_text (length n) then over longest_text else token.Id n
limited (token.Number z) = token.Number z
limited (token.Digits ds) = if nat_lt widest_constant (length ds) then over widest_constant else token.Digits ds
limited (token.Text t) = if nat_lt longest_text (length t) then over longest_text else token.Text t
limited (token.Word w) = token.Word w
limited token.OpenBrace = token.OpenBrace
limited token.CloseBrace = token.CloseBrace
limited token.OpenBracket = token.OpenBracket
limited token.CloseBracket = token.CloseBracket
limited token.Colon = token.Colon
limited token.Bad = token.Bad
limited (token.Over seen) = token.Over seen

-- a token and what follows it
abbrev pub limited_first : Token × List ℕ → Token × List ℕ
limited_first x = (limited x.0, x.1)
