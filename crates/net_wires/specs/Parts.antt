-- A signal read part by part from the left. That this gives a signal's bits is a law.
use Rattle.std.specs.Prelude.{ℕ, List, [], ◌∷◌, ◌++◌, length}
use Rattle.rtlil_text.specs.declared.doc.Part.{Part}
use Rattle.rtlil_text.specs.declared.doc.Part.TheVariants as part
use Rattle.net_wires.specs.declared.breach.Breach.{Breach}
use Rattle.net_wires.specs.declared.source.Source.{Source}
use Rattle.net_wires.specs.Signals.{const_bits, cut, cut_breaches, span_bits, span_breaches}
use Rattle.net_wires.specs.Spans.{Entry, look}

-- what was read of a signal, its bits low bit first
pub record State : Type 0 where
  -- for each open brace, the innermost first: the bits of the signals in front of it, within the braces around it
  pub outer : List (List Source)
  -- the bits of the signals within the innermost braces, but for the last one
  pub before : List Source
  -- the bits of the last signal
  pub last : List Source

abbrev pub start : State
start = record { outer = []; before = []; last = [] }

-- what stands further left is more significant
abbrev pub put : State → List Source → State
put st bits = record { outer = st.outer; before = st.last ++ st.before; last = bits }

abbrev pub opened : State → State
opened st = record { outer = (st.last ++ st.before) ∷ st.outer; before = []; last = [] }

abbrev pub closed : List (List Source) → State → State
closed [] st = st
closed (b ∷ bs) st = record { outer = bs; before = b; last = st.last ++ st.before }

abbrev pub sliced : ℕ → ℕ → State → State
sliced high low st = record { outer = st.outer; before = st.before; last = cut high low st.last }

abbrev pub step : List Entry → State → Part → State
step names st (part.Fixed c) = put st (const_bits c)
step names st (part.Wire n) = put st (span_bits (look names n))
step names st (part.Slice high low) = sliced high low st
step names st part.Begin = opened st
step names st part.End = closed st.outer st

abbrev pub steps : List Entry → State → List Part → State
steps names st [] = st
steps names st (p ∷ ps) = steps names (step names st p) ps

abbrev pub bits_in : State → List Source
bits_in st = st.last ++ st.before

abbrev pub signal_bits : List Entry → List Part → List Source
signal_bits names ps = bits_in (steps names start ps)

abbrev pub part_breaches : List Entry → State → Part → List Breach
part_breaches names st (part.Fixed c) = []
part_breaches names st (part.Wire n) = span_breaches (look names n)
part_breaches names st (part.Slice high low) = cut_breaches high (length st.last)
part_breaches names st part.Begin = []
part_breaches names st part.End = []

abbrev pub parts_breaches : List Entry → State → List Part → List Breach
parts_breaches names st [] = []
parts_breaches names st (p ∷ ps) = part_breaches names st p ++ parts_breaches names (step names st p) ps

abbrev pub signal_breaches : List Entry → List Part → List Breach
signal_breaches names ps = parts_breaches names start ps
