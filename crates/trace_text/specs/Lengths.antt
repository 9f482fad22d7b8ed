-- How many bytes the text of traces has, of which each has a bit for each output at each of as many events.
use Rattle.std.specs.Prelude.{◌≡◌, ℕ, zero, suc, ◌+◌, ◌-◌, ◌*◌, ◌^◌, Bool, List, [], ◌∷◌, length, min, decimal}
use Rattle.net_core.specs.declared.modules.Module.{Module}
use Rattle.net_core.specs.Ports.{outputs_of}
use Rattle.trace_text.specs.declared.rows.Row.{Row}
use Rattle.trace_text.specs.Trace.{rows_of, trace_text}

-- as far as 64 bits count
abbrev pub capped : ℕ → ℕ
capped n = min n (2 ^ 64 - 1)

-- the digits of all numbers below a limit, together
unfoldable pub digits_below : ℕ → ℕ
digits_below zero = 0
digits_below (suc n) = digits_below n + length (decimal n)

-- a line has the number of the event, a space, what the row prints before its constant, a space, the constant and a line feed: its
-- bytes but for the number of the event
unfoldable pub line_bytes : Row → ℕ
line_bytes r = length r.label + length (decimal r.width) + r.width + 4

unfoldable pub all_bytes : List Row → ℕ
all_bytes [] = 0
all_bytes (r ∷ rs) = line_bytes r + all_bytes rs

-- the lines of so many events
unfoldable pub events_bytes : List Row → ℕ → ℕ
events_bytes rs events = length rs * digits_below events + events * all_bytes rs

-- so many runs, each with a line that has six bytes and the number of the seed
unfoldable pub runs_bytes : List Row → ℕ → ℕ → ℕ
runs_bytes rs events seeds = digits_below seeds + seeds * (6 + events_bytes rs events)

unfoldable pub text_bytes : Module → ℕ → ℕ → ℕ
text_bytes m events seeds = runs_bytes (rows_of m) events seeds

-- ---- traces

-- at each event a bit for each of so many outputs
abbrev pub HasBits : ℕ → List (List Bool) → Type 0
HasBits outputs [] = Unit {0}
HasBits outputs (bits ∷ run) = (length bits ≡ outputs) × HasBits outputs run

-- each run has so many events
abbrev pub AreRuns : ℕ → ℕ → List (List (List Bool)) → Type 0
AreRuns outputs events [] = Unit {0}
AreRuns outputs events (run ∷ runs) = ((length run ≡ events) × HasBits outputs run) × AreRuns outputs events runs

-- The law: the text of traces of a module, with so many events for each of so many seeds, has this many bytes.
abbrev pub TextHasBytes : Type 0
TextHasBytes =
    (m : Module) (events seeds : ℕ) (traces : List (List (List Bool))) → length traces ≡ seeds → AreRuns (length (outputs_of m)) events traces → length (trace_text m traces) ≡ text_bytes m events seeds
