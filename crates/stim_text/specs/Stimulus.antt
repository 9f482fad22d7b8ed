-- What each line of a stimulus text says of the inputs of a module, the events that follow, and the first fault.
use Rattle.std.specs.Prelude.{◌≡◌, ◌⊎◌, ℕ, ◌+◌, Bool, true, false, List, [], ◌∷◌, ◌++◌, length, replicate, Option, Some, None, Result, Ok, Err, nat_lt, slice_get, slice_set, if◌then◌else◌, codes}
use Rattle.std.specs.Str.{bytes_eq}
use Rattle.net_core.specs.declared.bits.Bit.{Bit}
use Rattle.net_core.specs.declared.bits.Bit.TheVariants as bit
use Rattle.net_core.specs.declared.bits.Edge.{Edge}
use Rattle.net_core.specs.declared.bits.Event.{Event}
use Rattle.net_core.specs.declared.modules.Module.{Module}
use Rattle.stim_text.specs.declared.fault.StimCode.{StimCode}
use Rattle.stim_text.specs.declared.fault.StimCode.TheVariants as code
use Rattle.stim_text.specs.declared.fault.StimFault.{StimFault}
use Rattle.stim_text.specs.declared.fault.Stop.{Stop}
use Rattle.stim_text.specs.declared.fault.Stop.TheVariants as stop
use Rattle.stim_text.specs.declared.names.Span.{Span}
use Rattle.stim_text.specs.declared.read.State.{State}
use Rattle.stim_text.specs.declared.says.Says.{Says}
use Rattle.stim_text.specs.declared.says.Says.TheVariants as says
use Rattle.stim_text.specs.declared.tables.Tables.{Tables}
use Rattle.stim_text.specs.Inputs.{wire_at, pin_at, has_net, tables_of}
use Rattle.stim_text.specs.Spoken.{lines, spoken, number_below, value_in}

-- ---- what a line says

abbrev pub Reading : Type 0
Reading = Result Says StimCode

-- new values of an input
abbrev pub set_bits : ℕ → Result (List Bool) StimCode → Reading
set_bits start (Err c) = Err c
set_bits start (Ok bits) = Ok (says.Set start bits)

unfoldable pub set_at : Option Span → List ℕ → Reading
set_at None w = Err code.Line
set_at (Some s) w = set_bits s.start (value_in s.width w)

-- an edge of a bit that is a net: one of a clock
unfoldable pub edge_of : List ℕ → Bool → Option Bit → Reading
edge_of roots rising None = Err code.Line
edge_of roots rising (Some bit.Zero) = Err code.Line
edge_of roots rising (Some bit.One) = Err code.Line
edge_of roots rising (Some (bit.Net n)) = if has_net roots n then Ok (says.Event (Some (record { net = n; rising = rising }))) else Err code.Clock

abbrev pub edge_index : Tables → Bool → ℕ → Option ℕ → Reading
edge_index t rising start None = Err code.Line
edge_index t rising start (Some k) = edge_of t.roots rising (slice_get t.bits (start + k))

-- an edge of the bit of an input at an index, which counts from 0 at the low end
unfoldable pub edge_at : Tables → Bool → Option Span → List ℕ → Reading
edge_at t rising None w = Err code.Line
edge_at t rising (Some s) w = edge_index t rising s.start (number_below s.width w)

unfoldable pub set_words : Tables → List (List ℕ) → Reading
set_words t (wire ∷ value ∷ []) = set_at (wire_at t.wires wire) value
set_words t ws = Err code.Line

unfoldable pub pin_words : Tables → List (List ℕ) → Reading
pin_words t (cell ∷ pin ∷ value ∷ []) = set_at (pin_at t.pins cell pin) value
pin_words t ws = Err code.Line

unfoldable pub go_words : List (List ℕ) → Reading
go_words [] = Ok (says.Event None)
go_words ws = Err code.Line

unfoldable pub edge_words : Tables → Bool → List (List ℕ) → Reading
edge_words t rising (wire ∷ index ∷ []) = edge_at t rising (wire_at t.wires wire) index
edge_words t rising (cell ∷ pin ∷ index ∷ []) = edge_at t rising (pin_at t.pins cell pin) index
edge_words t rising ws = Err code.Line

unfoldable pub command : Tables → List ℕ → List (List ℕ) → Reading
command t c ws =
    if bytes_eq c (codes "set") then set_words t ws
    else (if bytes_eq c (codes "pin") then pin_words t ws
    else (if bytes_eq c (codes "go") then go_words ws
    else (if bytes_eq c (codes "rise") then edge_words t true ws
    else (if bytes_eq c (codes "fall") then edge_words t false ws
    else Err code.Line))))

abbrev pub words_say : Tables → List (List ℕ) → Reading
words_say t [] = Ok says.Nothing
words_say t (c ∷ ws) = command t c ws

-- what a line says, or the lowest number of what is wrong in it
unfoldable pub line_says : Tables → List ℕ → Reading
line_says t line = words_say t (spoken line)

-- ---- values and events

-- values from a place on; those past the end are let go
unfoldable pub put : ℕ → List Bool → List Bool → List Bool
put place [] values = values
put place (v ∷ vs) values = put (place + 1) vs (slice_set values place v)

-- the values of the nets among the bits of inputs
unfoldable pub net_values : List Bit → List Bool → List Bool
net_values [] values = []
net_values (b ∷ bs) [] = []
net_values (bit.Net n ∷ bs) (v ∷ values) = v ∷ net_values bs values
net_values (bit.Zero ∷ bs) (v ∷ values) = net_values bs values
net_values (bit.One ∷ bs) (v ∷ values) = net_values bs values

abbrev pub event : List Bit → List Bool → Option Edge → Event
event bits values e = record { values = net_values bits values; edge = e }

-- values begin as 0 and stay until they are set again
unfoldable pub start : Tables → State
start t = record { values = replicate (length t.bits) false; events = [] }

unfoldable pub with_event : Tables → State → Option Edge → Result State StimCode
with_event t st e = if nat_lt (length st.events) 65536 then Ok (record st { events = st.events ++ event t.bits st.values e ∷ [] }) else Err code.Limit

unfoldable pub advance : Tables → State → Says → Result State StimCode
advance t st says.Nothing = Ok st
advance t st (says.Set place bits) = Ok (record st { values = put place bits st.values })
advance t st (says.Event e) = with_event t st e

-- ---- texts

abbrev pub and_advance : Tables → State → Reading → Result State StimCode
and_advance t st (Ok s) = advance t st s
and_advance t st (Err c) = Err c

-- the state behind a line
unfoldable pub line_at : Tables → State → List ℕ → Result State StimCode
line_at t st line = and_advance t st (line_says t line)

abbrev pub seen_of : StimCode → ℕ
seen_of code.Limit = 65537
seen_of c = 0

abbrev pub fault : ℕ → StimCode → StimFault
fault n c = record { line = n; code = c; seen = seen_of c }

abbrev pub on_line : ℕ → Result State StimCode → (State → Result (List Event) StimFault) → Result (List Event) StimFault
on_line n (Ok st) f = f st
on_line n (Err c) f = Err (fault n c)

-- the events of a text from line n on, or its first fault
unfoldable pub read_lines : Tables → State → ℕ → List (List ℕ) → Result (List Event) StimFault
read_lines t st n [] = Ok st.events
read_lines t st n (l ∷ ls) = on_line n (line_at t st l) (λ next. read_lines t next (n + 1) ls)

unfoldable pub read : Module → List ℕ → Result (List Event) StimFault
read m bs = read_lines (tables_of m) (start (tables_of m)) 1 (lines bs)

-- ---- answers

-- want of memory
abbrev pub IsMemory : StimFault → Type 0
IsMemory f = f ≡ record { line = 0; code = code.Memory; seen = 0 }

-- what a function returned is what reading gives, unless memory ran out
abbrev pub Stops : {Y : Type 0} → Stop → Result Y StimCode → Type 0
Stops stop.Memory read = Unit {0}
Stops (stop.Refused c) read = read ≡ Err c

abbrev pub Gives : {Y : Type 0} → Result Y Stop → Result Y StimCode → Type 0
Gives (Ok x) read = read ≡ Ok x
Gives (Err e) read = Stops e read

abbrev pub GivesEvents : Result (List Event) StimFault → Result (List Event) StimFault → Type 0
GivesEvents (Ok es) read = read ≡ Ok es
GivesEvents (Err f) read = IsMemory f ⊎ (read ≡ Err f)

abbrev pub StopsAt : ℕ → Stop → StimFault → Type 0
StopsAt n stop.Memory f = IsMemory f
StopsAt n (stop.Refused c) f = f ≡ fault n c
