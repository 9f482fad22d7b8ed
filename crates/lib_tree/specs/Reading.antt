-- A text of a library, token by token.
use Rattle.std.specs.Prelude.{◌≡◌, ℕ, ◌+◌, List, [], ◌∷◌, ◌++◌, Option, Some, None, Result, Ok, Err, ◌==◌, if◌then◌else◌}
use Rattle.lib_tree.specs.declared.fault.LibCode.{LibCode}
use Rattle.lib_tree.specs.declared.fault.LibCode.TheVariants as code
use Rattle.lib_tree.specs.declared.fault.LibFault.{LibFault}
use Rattle.lib_tree.specs.declared.partial.Partial.{Partial}
use Rattle.lib_tree.specs.declared.partial.Step.{Step}
use Rattle.lib_tree.specs.declared.partial.Step.TheVariants as one
use Rattle.lib_tree.specs.declared.statement.Place.{Place}
use Rattle.lib_tree.specs.declared.statement.Place.TheVariants as place
use Rattle.lib_tree.specs.declared.statement.Statement.{Statement}
use Rattle.lib_tree.specs.declared.text.LineRead.{LineRead}
use Rattle.lib_tree.specs.declared.text.Reading.{Reading}
use Rattle.lib_tree.specs.declared.token.Token.{Token}
use Rattle.lib_tree.specs.Grammar.{after}
use Rattle.lib_tree.specs.Lex.{tokens}
use Rattle.lib_tree.specs.Machine.{◌>>=◌, advance}

abbrev pub start : Reading
start = record { statements = []; place = place.Outside; partial = None }

abbrev pub settle : Reading → Step → Reading
settle r (one.More p) = record { statements = r.statements; place = r.place; partial = Some p }
settle r (one.Done s) = record { statements = r.statements ++ s ∷ []; place = after r.place s; partial = None }

-- what was read with one more token
unfoldable pub step : Reading → Token → Result Reading LibCode
step r t = advance r.place r.partial t >>= λ s. Ok (settle r s)

abbrev pub fault : LibCode → ℕ → LibFault
fault c line = record { line = line; code = c; seen = 0 }

-- want of memory is in no line
abbrev pub fault_in : LibCode → ℕ → LibFault
fault_in code.Memory line = fault code.Memory 0
fault_in c line = fault c line

abbrev pub at_line : {A B : Type 0} → ℕ → Result A LibCode → (A → Result B LibFault) → Result B LibFault
at_line line (Ok x) f = f x
at_line line (Err c) f = Err (fault c line)

abbrev pub finished : Option Partial → Place → List Statement → ℕ → Result (List Statement) LibFault
finished None place.Outside ss last = Ok ss
finished p pl ss last = Err (fault code.Unclosed last)

-- the statements at the end of a text whose last token stands in a line
unfoldable pub finish : Reading → ℕ → Result (List Statement) LibFault
finish r last = finished r.partial r.place r.statements last

-- what was read with the tokens of a line, and the line of the last token then
unfoldable pub read_line : Reading → ℕ → ℕ → List Token → Result LineRead LibFault
read_line r line last [] = Ok (record { reading = r; last = last })
read_line r line last (t ∷ ts) = at_line line (step r t) (λ behind. read_line behind line line ts)

abbrev pub onto_first : ℕ → List (List ℕ) → List (List ℕ)
onto_first b [] = (b ∷ []) ∷ []
onto_first b (l ∷ ls) = (b ∷ l) ∷ ls

-- the lines of a text; the last is what stands behind the last line feed
unfoldable pub lines : List ℕ → List (List ℕ)
lines [] = [] ∷ []
lines (b ∷ bs) = if b == 10 then [] ∷ lines bs else onto_first b (lines bs)

-- what is read from a line on
unfoldable pub read_lines : Reading → ℕ → ℕ → List (List ℕ) → Result (List Statement) LibFault
read_lines r line last [] = finish r last
read_lines r line last (l ∷ ls) = read_line r line last (tokens line l) >>= λ x. read_lines x.reading (line + 1) x.last ls

-- what is read of a text
abbrev pub read : List ℕ → Result (List Statement) LibFault
read bs = read_lines start 1 1 (lines bs)

-- what a function returned is what it is to, unless memory ran out
abbrev pub FailsAt : {X : Type 0} → LibCode → LibFault → Result X LibFault → Type 0
FailsAt code.Memory f r = f ≡ fault code.Memory 0
FailsAt c f r = r ≡ Err f

abbrev pub GivesRead : {X : Type 0} → Result X LibFault → Result X LibFault → Type 0
GivesRead (Ok x) r = r ≡ Ok x
GivesRead (Err f) r = FailsAt f.code f r

-- the lines behind a line feed, where there is one
abbrev pub lines_behind : Option (List ℕ) → List (List ℕ)
lines_behind None = []
lines_behind (Some bs) = lines bs

abbrev pub depth_of : Place → ℕ
depth_of place.Outside = 0
depth_of place.Ram = 0
depth_of (place.Options depth) = depth
depth_of (place.Port kind depth) = depth
