-- Which texts are within the limits of this program, and what the first fault of a text is.
use Rattle.std.specs.Prelude.{◌≡◌, ◌⊎◌, ℕ, suc, List, [], ◌∷◌, ◌++◌, length, map, Result, Ok, Err}
use Rattle.rtlil_lex.specs.declared.token.Token.{Token}
use Rattle.rtlil_lex.specs.declared.token.Token.TheVariants as token
use Rattle.rtlil_lex.specs.declared.token.Word.TheVariants as word
use Rattle.rtlil_lex.specs.Limits.{limited}
use Rattle.rtlil_lex.specs.Lines.{token_lines}
use Rattle.rtlil_text.specs.declared.doc.Doc.{Doc}
use Rattle.rtlil_text.specs.declared.fault.Refusal.{Refusal}
use Rattle.rtlil_text.specs.declared.fault.Refusal.TheVariants as refusal
use Rattle.rtlil_text.specs.declared.fault.TextCode.TheVariants as code
use Rattle.rtlil_text.specs.declared.fault.TextFault.{TextFault}
use Rattle.rtlil_text.specs.Grammar.{All, Spells, DocNests}
use Rattle.rtlil_text.specs.ReadText.{fault}
use Rattle.rtlil_text.specs.Reads.{EndsBlank}

-- lines of tokens as this program reads them
abbrev pub limited_lines : List (List Token) → List (List Token)
limited_lines tss = map (λ ts. map limited ts) tss

-- no token is longer than this program reads, and braces stand at most 64 deep
pub record IsWithinLimits (bs : List ℕ) (d : Doc) : Type 0 where
  pub short : limited_lines (token_lines bs) ≡ token_lines bs
  pub depth : DocNests 64 d

-- ---- faults

-- want of memory
abbrev pub no_memory : TextFault
no_memory = record { line = 0; code = code.Memory; seen = 0 }

-- lines are a document within the limit of depth; or one of any depth
abbrev pub IsDocument : List (List Token) → Type 0
IsDocument tss = (d : Doc) × Spells d tss × DocNests 64 d

abbrev pub IsDeepDocument : List (List Token) → Type 0
IsDeepDocument tss = (d : Doc) × Spells d tss

-- what stands in the place of a fault: the line's end, or one token and then any
abbrev pub here : List Token → List Token → List Token
here [] more = []
here (t ∷ ts) more = t ∷ more

-- lines and the front of a line begin a document
abbrev pub Begins : List (List Token) → List Token → Type 0
Begins before front = (more : List Token) × (later : List (List Token)) × IsDocument (before ++ (front ++ more) ∷ later)

-- and so they do with what stands behind the front
abbrev pub BeginsWith : List (List Token) → List Token → List Token → Type 0
BeginsWith before front rest = (more : List Token) × (later : List (List Token)) × IsDocument (before ++ (front ++ here rest more) ∷ later)

abbrev pub DeepBeginsWith : List (List Token) → List Token → List Token → Type 0
DeepBeginsWith before front rest = (more : List Token) × (later : List (List Token)) × IsDeepDocument (before ++ (front ++ here rest more) ∷ later)

-- no sign of a fault of another kind
abbrev pub IsOrdinary : List Token → List Token → Type 0
IsOrdinary front [] = Unit {0}
IsOrdinary front (token.Bad ∷ ts) = ⊥
IsOrdinary front (token.Over seen ∷ ts) = ⊥
IsOrdinary front (token.Word word.Process ∷ ts) = front ≡ [] → ⊥
IsOrdinary front (t ∷ ts) = Unit {0}

-- why the text stops being a document where rest stands behind the front of a line
abbrev pub IsCause : List (List Token) → List Token → List Token → Refusal → Type 0
IsCause before front rest refusal.Token = (ts : List Token) × (rest ≡ token.Bad ∷ ts)
IsCause before front rest refusal.Process = (ts : List Token) × (front ≡ []) × (rest ≡ token.Word word.Process ∷ ts)
-- a token that is too long, or a brace that stands too deep
IsCause before front rest (refusal.Limit seen) = ((ts : List Token) × (rest ≡ token.Over seen ∷ ts)) ⊎ ((ts : List Token) × (rest ≡ token.OpenBrace ∷ ts) × (seen ≡ 65) × DeepBeginsWith before front rest)
IsCause before front rest refusal.Grammar = IsOrdinary front rest × (DeepBeginsWith before front rest → ⊥)

-- the first fault stands in the line behind count others: what stands before it begins a document, and with it none does
pub record FaultInLine (tss : List (List Token)) (count : ℕ) (cause : Refusal) : Type 0 where
  pub before : List (List Token)
  pub front : List Token
  pub rest : List Token
  pub behind : List (List Token)
  pub parts : tss ≡ before ++ (front ++ rest) ∷ behind
  pub place : length before ≡ count
  pub can : Begins before front
  pub cannot : BeginsWith before front rest → ⊥
  pub why : IsCause before front rest cause

-- the text begins a document and ends too early; its last token stands in the line of this number
pub record EndsEarly (tss : List (List Token)) (number : ℕ) : Type 0 where
  pub before : List (List Token)
  pub first : Token
  pub others : List Token
  pub behind : List (List Token)
  pub parts : tss ≡ before ++ (first ∷ others) ∷ behind
  pub blank : All (λ ts. ts ≡ []) behind
  pub place : number ≡ suc (length before)
  pub can : (later : List (List Token)) × IsDocument (tss ++ later)
  pub cannot : EndsBlank tss → IsDocument tss → ⊥

-- lines are counted from 1
abbrev pub IsFirstFault : List (List Token) → TextFault → Type 0
IsFirstFault tss f =
    ((count : ℕ) × (cause : Refusal) × (f ≡ fault (suc count) cause) × FaultInLine tss count cause)
    ⊎ ((number : ℕ) × (f ≡ fault number refusal.Grammar) × EndsEarly tss number)

-- the answer is this document, unless memory ran out
abbrev pub IsReadAs : Result Doc TextFault → Doc → Type 0
IsReadAs (Ok e) d = e ≡ d
IsReadAs (Err f) d = f ≡ no_memory
