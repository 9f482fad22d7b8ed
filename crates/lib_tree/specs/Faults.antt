-- Which statements a text reads as, and where it goes wrong first: what stands before the fault begins a library,
-- and with it no library begins. Which fault it is follows from which tokens a library might have there.
use Rattle.std.specs.Prelude.{◌≡◌, ◌⊎◌, ℕ, zero, suc, ◌+◌, List, [], ◌∷◌, ◌++◌, length, map}
use Rattle.lib_core.specs.declared.library.Property.{Property}
use Rattle.lib_tree.specs.declared.fault.LibCode.{LibCode}
use Rattle.lib_tree.specs.declared.fault.LibCode.TheVariants as code
use Rattle.lib_tree.specs.declared.fault.LibFault.{LibFault}
use Rattle.lib_tree.specs.declared.statement.Statement.{Statement}
use Rattle.lib_tree.specs.declared.token.Token.{Token}
use Rattle.lib_tree.specs.declared.token.Token.TheVariants as token
use Rattle.lib_tree.specs.declared.token.Word.TheVariants as word
use Rattle.lib_tree.specs.Grammar.{Spells}
use Rattle.lib_tree.specs.Lex.{tokens}
use Rattle.lib_tree.specs.Reading.{lines}

-- a token and the line in which it stands
abbrev pub Placed : Type 0
Placed = ℕ × Token

abbrev pub in_line : ℕ → Token → Placed
in_line line t = (line, t)

-- the tokens of lines, the first of which has the number
unfoldable pub placed_from : ℕ → List (List ℕ) → List Placed
placed_from line [] = []
placed_from line (l ∷ ls) = map (in_line line) (tokens line l) ++ placed_from (line + 1) ls

abbrev pub token_of : Placed → Token
token_of p = p.1

-- the tokens of a text
abbrev pub placed : List ℕ → List Placed
placed bs = placed_from 1 (lines bs)

abbrev pub text_tokens : List ℕ → List Token
text_tokens bs = map token_of (placed bs)

-- the text is these statements
abbrev pub IsText : List ℕ → List Statement → Type 0
IsText bs ss = Spells (text_tokens bs) ss

-- the tokens are a library
abbrev pub IsLibrary : List Token → Type 0
IsLibrary ts = (ss : List Statement) × Spells ts ss

-- a library may go on with the token behind others
abbrev pub MayFollow : List Token → Token → Type 0
MayFollow front t = (more : List Token) × IsLibrary (front ++ t ∷ more)

-- what stands in the place of a fault: the end, or one token and then any
abbrev pub here : List Token → List Token → List Token
here [] more = []
here (t ∷ ts) more = t ∷ more

-- ---- which fault it is

abbrev pub IsNumber : Token → Type 0
IsNumber (token.Number n) = Unit {0}
IsNumber token.Large = Unit {0}
IsNumber t = ⊥

abbrev pub IsWord : Token → Type 0
IsWord (token.Ram line) = Unit {0}
IsWord (token.Word w) = Unit {0}
IsWord t = ⊥

-- a number may stand there
abbrev pub WantsNumber : (Token → Type 0) → Type 0
WantsNumber may = (n : ℕ) × may (token.Number n)

-- nothing but numbers may
abbrev pub WantsOnlyNumber : (Token → Type 0) → Type 0
WantsOnlyNumber may = WantsNumber may × ((u : Token) → may u → IsNumber u)

-- no number where one is wanted, or one that may not stand there
abbrev pub IsBadNumber : (Token → Type 0) → Token → Type 0
IsBadNumber may t = (WantsNumber may × IsNumber t) ⊎ WantsOnlyNumber may

-- a word where words stand
abbrev pub IsBadWord : (Token → Type 0) → Token → Type 0
IsBadWord may t = IsWord t × ((u : Token) × IsWord u × may u)

-- the word of a property where properties stand: there alone may a port's own options begin
abbrev pub IsBadProperty : (Token → Type 0) → Token → Type 0
IsBadProperty may t = may (token.Word word.PortOption) × ((p : Property) × (t ≡ token.Word (word.Property p)))

-- the code of the fault at a token that may not stand where it does
abbrev pub IsCodeAt : (Token → Type 0) → Token → LibCode → Type 0
IsCodeAt may t code.BadNumber = IsBadNumber may t
IsCodeAt may t code.NotForKind = IsBadProperty may t
IsCodeAt may t code.UnknownWord = IsBadWord may t × (IsBadProperty may t → ⊥)
IsCodeAt may t code.Token = (IsBadNumber may t → ⊥) × (IsBadWord may t → ⊥)
IsCodeAt may t c = ⊥

-- the code of the fault where the rest of a text is not what may stand there
abbrev pub IsCode : (Token → Type 0) → List Token → LibCode → Type 0
IsCode may [] c = c ≡ code.Unclosed
IsCode may (t ∷ ts) c = IsCodeAt may t c

-- the line of the token behind so many others, or of the last token where there are no more
unfoldable pub line_at : ℕ → ℕ → List Placed → ℕ
line_at last n [] = last
line_at last zero (p ∷ ps) = p.0
line_at last (suc n) (p ∷ ps) = line_at p.0 n ps

-- the first fault of a text
pub record IsFirstFault (ps : List Placed) (f : LibFault) : Type 0 where
  pub front : List Token
  pub rest : List Token
  pub parts : map token_of ps ≡ front ++ rest
  -- what stands before the fault begins a library
  pub can : (more : List Token) × IsLibrary (front ++ more)
  -- with the fault none begins
  pub cannot : (more : List Token) → IsLibrary (front ++ here rest more) → ⊥
  pub code : IsCode (MayFollow front) rest f.code
  pub line : f.line ≡ line_at 1 (length front) ps
  pub seen : f.seen ≡ 0

-- want of memory, or the first fault of the text
abbrev pub IsReadFaultBy : LibCode → List ℕ → LibFault → Type 0
IsReadFaultBy code.Memory bs f = f ≡ record { line = 0; code = code.Memory; seen = 0 }
IsReadFaultBy c bs f = IsFirstFault (placed bs) f

abbrev pub IsReadFault : List ℕ → LibFault → Type 0
IsReadFault bs f = IsReadFaultBy f.code bs f
