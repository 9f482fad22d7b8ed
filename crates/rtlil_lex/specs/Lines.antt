-- The lines of a text.
use Rattle.std.specs.Prelude.{◌≡◌, ◌+◌, ℕ, List, [], ◌∷◌, length, map, ◌==◌, if◌then◌else◌}
use Rattle.rtlil_lex.specs.declared.token.Token.{Token}
use Rattle.rtlil_lex.specs.Lex.{tokens}

abbrev pub onto_first : ℕ → List (List ℕ) → List (List ℕ)
onto_first b [] = (b ∷ []) ∷ []
onto_first b (l ∷ ls) = (b ∷ l) ∷ ls

-- a line ends before each line feed, and the last is what stands behind the last line feed
unfoldable pub lines : List ℕ → List (List ℕ)
lines [] = [] ∷ []
lines (b ∷ bs) = if b == 10 then [] ∷ lines bs else onto_first b (lines bs)

-- the tokens of each line
abbrev pub token_lines : List ℕ → List (List Token)
token_lines bs = map tokens (lines bs)

-- a line, and the text behind its line feed
pub record BeginsWithLine (bs line tail : List ℕ) : Type 0 where
  pub first : lines bs ≡ line ∷ lines tail
  pub shorter : length line + length tail + 1 ≡ length bs
