-- The text of a trace: for each run a line with its seed, and for each event a line for each output wire by port number and for each
-- pin that a carried cell reads, in file order.
use Rattle.std.specs.Prelude.{ℕ, ◌+◌, Bool, not, List, [], ◌∷◌, ◌++◌, length, map, filter, reverse, take, drop, decimal, codes, if◌then◌else◌}
use Rattle.std.specs.List.{flat_map}
use Rattle.net_core.specs.declared.cells.Carried.{Carried}
use Rattle.net_core.specs.declared.cells.Pin.{Pin}
use Rattle.net_core.specs.declared.modules.Module.{Module}
use Rattle.net_core.specs.declared.modules.Wire.{Wire}
use Rattle.net_core.specs.Ports.{by_port, is_output_wire}
use Rattle.trace_text.specs.declared.rows.Row.{Row}

-- ---- what is printed of each event

abbrev pub wire_row : Wire → Row
wire_row w = record { label = w.name; width = length w.bits }

abbrev pub pin_row : List ℕ → Pin → Row
pin_row cell p = record { label = cell ++ (32 ∷ p.name); width = length p.bits }

abbrev pub reading : List Pin → List Pin
reading ps = filter (λ p. not p.drives) ps

abbrev pub cell_rows : Carried → List Row
cell_rows c = map (pin_row c.name) (reading c.pins)

abbrev pub wires_of : Module → List Wire
wires_of m = by_port (filter is_output_wire m.wires)

unfoldable pub rows_of : Module → List Row
rows_of m = map wire_row (wires_of m) ++ flat_map cell_rows m.carried

-- ---- the text

abbrev pub digit : Bool → ℕ
digit b = if b then 49 else 48

-- the most significant digit first
abbrev pub digits : List Bool → List ℕ
digits bits = map digit (reverse bits)

unfoldable pub row_head : ℕ → Row → List ℕ
row_head event r = decimal event ++ codes " " ++ r.label ++ codes " "

unfoldable pub constant_text : ℕ → List Bool → List ℕ
constant_text width bits = decimal width ++ codes "'" ++ digits bits ++ codes "\n"

unfoldable pub row_text : ℕ → Row → List Bool → List ℕ
row_text event r bits = row_head event r ++ constant_text r.width bits

-- the rows of an event, of which each takes its bits
unfoldable pub event_text : ℕ → List Row → List Bool → List ℕ
event_text event [] bits = []
event_text event (r ∷ rs) bits = row_text event r (take r.width bits) ++ event_text event rs (drop r.width bits)

unfoldable pub events_text : List Row → ℕ → List (List Bool) → List ℕ
events_text rs event [] = []
events_text rs event (bits ∷ more) = event_text event rs bits ++ events_text rs (event + 1) more

unfoldable pub seed_text : ℕ → List ℕ
seed_text seed = codes "seed " ++ decimal seed ++ codes "\n"

unfoldable pub runs_text : List Row → ℕ → List (List (List Bool)) → List ℕ
runs_text rs seed [] = []
runs_text rs seed (run ∷ more) = (seed_text seed ++ events_text rs 0 run) ++ runs_text rs (seed + 1) more

unfoldable pub trace_text : Module → List (List (List Bool)) → List ℕ
trace_text m runs = runs_text (rows_of m) 0 runs
