-- A text, line by line, up to its first refusal.
use Rattle.std.specs.Prelude.{◌≡◌, ◌⊎◌, ℕ, ◌+◌, Bool, false, List, [], ◌∷◌, length, Result, Ok, Err, ◌==◌, if◌then◌else◌}
use Rattle.rtlil_lex.specs.declared.token.Token.{Token}
use Rattle.rtlil_text.specs.declared.doc.Doc.{Doc}
use Rattle.rtlil_text.specs.declared.doc.DocAttr.{DocAttr}
use Rattle.rtlil_text.specs.declared.fault.Refusal.{Refusal}
use Rattle.rtlil_text.specs.declared.fault.Refusal.TheVariants as refusal
use Rattle.rtlil_text.specs.declared.fault.Stop.{Stop}
use Rattle.rtlil_text.specs.declared.fault.Stop.TheVariants as stop
use Rattle.rtlil_text.specs.declared.fault.TextCode.TheVariants as code
use Rattle.rtlil_text.specs.declared.fault.TextFault.{TextFault}
use Rattle.rtlil_text.specs.declared.state.Open.{Open}
use Rattle.rtlil_text.specs.declared.state.Open.TheVariants as open_
use Rattle.rtlil_text.specs.declared.state.State.{State}
use Rattle.rtlil_text.specs.Read.{◌>>=◌}
use Rattle.rtlil_text.specs.ReadLine.{statement_at}
use Rattle.rtlil_text.specs.ReadState.{advance}

unfoldable pub line_at : ℕ → State → List Token → Result State Refusal
line_at limit st ts = statement_at limit st ts >>= λ s. Ok (advance st s)

unfoldable pub run : ℕ → State → List (List Token) → Result State Refusal
run limit st [] = Ok st
run limit st (ts ∷ tss) = line_at limit st ts >>= λ next. run limit next tss

-- nothing is open
pub record IsClosed (st : State) : Type 0 where
  pub outside : st.current ≡ open_.File
  pub no_attrs : st.attrs ≡ []

-- a fault in a line
abbrev pub fault : ℕ → Refusal → TextFault
fault n refusal.Token = record { line = n; code = code.Token; seen = 0 }
fault n refusal.Grammar = record { line = n; code = code.Grammar; seen = 0 }
fault n refusal.Process = record { line = n; code = code.Process; seen = 0 }
fault n (refusal.Limit seen) = record { line = n; code = code.Limit; seen = seen }

abbrev pub closed_at : Open → List DocAttr → Bool
closed_at open_.File attrs = length attrs == 0
closed_at o attrs = false

unfoldable pub is_closed : State → Bool
is_closed st = closed_at st.current st.attrs

-- the document at the end of a text whose last token stands in a line
unfoldable pub finish_text : State → ℕ → Result Doc TextFault
finish_text st last = if is_closed st then Ok (record { modules = st.modules }) else Err (fault last refusal.Grammar)

-- the number of the last line with a token
unfoldable pub last_line : List Token → ℕ → ℕ → ℕ
last_line [] n last = last
last_line (t ∷ ts) n last = n

abbrev pub on_line : ℕ → Result State Refusal → (State → Result Doc TextFault) → Result Doc TextFault
on_line n (Ok st) f = f st
on_line n (Err r) f = Err (fault n r)

-- a line of tokens has to end with a line feed
unfoldable pub at_end : ℕ → State → ℕ → ℕ → List Token → Result Doc TextFault
at_end limit st n last [] = finish_text st last
at_end limit st n last (t ∷ ts) = on_line n (line_at limit st (t ∷ ts)) (λ next. Err (fault n refusal.Grammar))

-- what is read from line n on, where the last token before it stands in the line last
unfoldable pub read_lines : ℕ → State → ℕ → ℕ → List (List Token) → Result Doc TextFault
read_lines limit st n last [] = finish_text st last
read_lines limit st n last (ts ∷ []) = at_end limit st n last ts
read_lines limit st n last (ts ∷ us ∷ tss) = on_line n (line_at limit st ts) (λ next. read_lines limit next (n + 1) (last_line ts n last) (us ∷ tss))

-- want of memory
abbrev pub IsMemory : TextFault → Type 0
IsMemory f = f ≡ record { line = 0; code = code.Memory; seen = 0 }

-- what a function returned is what reading gives, unless memory ran out
abbrev pub GivesDoc : Result Doc TextFault → Result Doc TextFault → Type 0
GivesDoc (Ok d) read = read ≡ Ok d
GivesDoc (Err f) read = IsMemory f ⊎ (read ≡ Err f)

-- what a line gives, with its fault
abbrev pub at_line : ℕ → Result State Refusal → Result State TextFault
at_line n (Ok st) = Ok st
at_line n (Err r) = Err (fault n r)

abbrev pub GivesState : Result State TextFault → Result State TextFault → Type 0
GivesState (Ok st) read = read ≡ Ok st
GivesState (Err f) read = IsMemory f ⊎ (read ≡ Err f)

abbrev pub StopsAt : ℕ → Stop → TextFault → Type 0
StopsAt n stop.Memory f = IsMemory f
StopsAt n (stop.Refused r) f = f ≡ fault n r
