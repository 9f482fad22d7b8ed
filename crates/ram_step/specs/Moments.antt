-- An event as a moment of one cell alone. The edge names a net, so the net is the one input that counts.
use Rattle.std.specs.Prelude.{ℕ, Bool, List, [], ◌∷◌, Option, Some, None}
use Rattle.net_core.specs.declared.bits.Edge.{Edge}
use Rattle.net_core.specs.declared.bits.Event.{Event}
use Rattle.net_core.specs.Values.{Valuation, Happening, bit_at}

abbrev pub edge_nets : Option Edge → List ℕ
edge_nets None = []
edge_nets (Some e) = e.net ∷ []

abbrev pub edge_alone : Option Edge → Option (ℕ × Bool)
edge_alone None = None
edge_alone (Some e) = Some (0, e.rising)

abbrev pub inputs_alone : Event → List ℕ
inputs_alone e = edge_nets e.edge

abbrev pub moment_of : Event → Happening
moment_of e = record { values = e.values; edge = edge_alone e.edge }

-- the valuation that a list gives, one value for each net; a net past its end has 0
abbrev pub valuation : List Bool → Valuation
valuation values = bit_at values
