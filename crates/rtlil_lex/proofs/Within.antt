-- Tokens within the limits.
use Rattle.std.proofs.Common.{◌≡◌, ℕ, Bool, true, false, List, [], ◌∷◌, length, map, refl}
use Rattle.std.specs.Prelude.{nat_lt}
use Rattle.rtlil_lex.specs.declared.token.Digit.{Digit}
use Rattle.rtlil_lex.specs.declared.token.Token.{Token}
use Rattle.rtlil_lex.specs.declared.token.Token.TheVariants as token
use Rattle.rtlil_lex.specs.Limits.{longest_text, widest_constant, limited}

abbrev pub IsOver : Token → Type 0
IsOver (token.Id n) = ⊥
IsOver (token.Number z) = ⊥
IsOver (token.Digits ds) = ⊥
IsOver (token.Text t) = ⊥
IsOver (token.Word w) = ⊥
IsOver token.OpenBrace = ⊥
IsOver token.CloseBrace = ⊥
IsOver token.OpenBracket = ⊥
IsOver token.CloseBracket = ⊥
IsOver token.Colon = ⊥
IsOver token.Bad = ⊥
IsOver (token.Over seen) = Unit {0}

abbrev pub NoneOver : List Token → Type 0
NoneOver [] = Unit {0}
NoneOver (t ∷ ts) = (IsOver t → ⊥) × NoneOver ts

id_same : (n : List ℕ) (b : Bool) → nat_lt longest_text (length n) ≡ b → (IsOver (limited (token.Id n)) → ⊥) → limited (token.Id n) ≡ token.Id n
id_same n true e h = let no : Unit {0} → ⊥ = rw e at h in absurd (no tt)
id_same n false e h = rw e refl

text_same : (t : List ℕ) (b : Bool) → nat_lt longest_text (length t) ≡ b → (IsOver (limited (token.Text t)) → ⊥) → limited (token.Text t) ≡ token.Text t
text_same t true e h = let no : Unit {0} → ⊥ = rw e at h in absurd (no tt)
text_same t false e h = rw e refl

digits_same : (ds : List Digit) (b : Bool) → nat_lt widest_constant (length ds) ≡ b → (IsOver (limited (token.Digits ds)) → ⊥) → limited (token.Digits ds) ≡ token.Digits ds
digits_same ds true e h = let no : Unit {0} → ⊥ = rw e at h in absurd (no tt)
digits_same ds false e h = rw e refl

-- a token that is not over a limit is as it was
pub limited_one : (t : Token) → (IsOver (limited t) → ⊥) → limited t ≡ t
limited_one (token.Id n) h = id_same n (nat_lt longest_text (length n)) refl h
limited_one (token.Number z) h = refl
limited_one (token.Digits ds) h = digits_same ds (nat_lt widest_constant (length ds)) refl h
limited_one (token.Text t) h = text_same t (nat_lt longest_text (length t)) refl h
limited_one (token.Word w) h = refl
limited_one token.OpenBrace h = refl
limited_one token.CloseBrace h = refl
limited_one token.OpenBracket h = refl
limited_one token.CloseBracket h = refl
limited_one token.Colon h = refl
limited_one token.Bad h = refl
limited_one (token.Over seen) h = refl

-- and so are tokens of which none is over a limit
pub limited_same : (ts : List Token) → NoneOver (map limited ts) → map limited ts ≡ ts
limited_same [] h = refl
limited_same (t ∷ ts) h = rw (limited_one t h.0, limited_same ts h.1) refl
