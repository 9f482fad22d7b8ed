-- What a text reads as, and which documents have a text.
use Rattle.std.specs.Prelude.{◌≡◌, ℕ, List, [], ◌∷◌}
use Rattle.rtlil_lex.specs.declared.token.Token.{Token}
use Rattle.rtlil_lex.specs.Lines.{token_lines}
use Rattle.rtlil_text.specs.declared.doc.Doc.{Doc}
use Rattle.rtlil_text.specs.Grammar.{Spells}

-- nothing stands behind the last line feed
abbrev pub EndsBlank : List (List Token) → Type 0
EndsBlank [] = Unit {0}
EndsBlank (ts ∷ []) = ts ≡ []
EndsBlank (ts ∷ us ∷ tss) = EndsBlank (us ∷ tss)

-- the text reads as the document, by the grammar without this program's limits
pub record Reads (bs : List ℕ) (d : Doc) : Type 0 where
  pub ends : EndsBlank (token_lines bs)
  pub spelled : Spells d (token_lines bs)

-- some text reads as the document
abbrev pub Writable : Doc → Type 0
Writable d = (bs : List ℕ) × Reads bs d
