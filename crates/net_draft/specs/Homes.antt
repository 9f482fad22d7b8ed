-- Where the nets of a module are at home: each at one bit of one wire of the document.
use Rattle.std.specs.Prelude.{ℕ, ◌+◌, Bool, true, false, not, ◌||◌, ◌&&◌, List, [], ◌∷◌, replicate, get_or, slice_set, Option, Some, None, if◌then◌else◌}
use Rattle.std.specs.Option.{is_some}
use Rattle.net_core.specs.declared.bits.Bit.{Bit}
use Rattle.net_core.specs.declared.bits.Bit.TheVariants.{Zero, One, Net}
use Rattle.net_core.specs.declared.cells.Carried.{Carried}
use Rattle.net_core.specs.declared.cells.Pin.{Pin}
use Rattle.net_core.specs.declared.modules.Wire.{Wire}
use Rattle.net_draft.specs.declared.homes.Home.{Home}

-- ---- nets of wires

abbrev pub first_home : Option Home → Home → Option Home
first_home None h = Some h
first_home (Some found) h = Some found

-- a net that has a home keeps it
abbrev pub settle : List (Option Home) → Bit → Home → List (Option Home)
settle homes Zero h = homes
settle homes One h = homes
settle homes (Net n) h = slice_set homes n (first_home (get_or homes n None) h)

-- the bits of a wire, from a place on
unfoldable pub settle_bits : List (Option Home) → ℕ → ℕ → List Bit → List (Option Home)
settle_bits homes wire place [] = homes
settle_bits homes wire place (b ∷ bs) = settle_bits (settle homes b (record { wire = wire; bit = place })) wire (place + 1) bs

abbrev pub settle_wire : List (Option Home) → ℕ → Bool → Wire → List (Option Home)
settle_wire homes place inputs_alone w = if w.input || not inputs_alone then settle_bits homes place 0 w.bits else homes

-- wires from a place on, input wires alone or all
unfoldable pub settle_wires : List (Option Home) → ℕ → Bool → List Wire → List (Option Home)
settle_wires homes place inputs_alone [] = homes
settle_wires homes place inputs_alone (w ∷ ws) = settle_wires (settle_wire homes place inputs_alone w) (place + 1) inputs_alone ws

-- input wires come before all others
abbrev pub wire_homes : ℕ → List Wire → List (Option Home)
wire_homes nets ws = settle_wires (settle_wires (replicate nets None) 0 true ws) 0 false ws

-- ---- nets of cells alone

abbrev pub mark : List Bool → Bit → List Bool
mark marks Zero = marks
mark marks One = marks
mark marks (Net n) = slice_set marks n true

unfoldable pub mark_bits : List Bool → List Bit → List Bool
mark_bits marks [] = marks
mark_bits marks (b ∷ bs) = mark_bits (mark marks b) bs

unfoldable pub mark_pins : List Bool → List Pin → List Bool
mark_pins marks [] = marks
mark_pins marks (p ∷ ps) = mark_pins (mark_bits marks p.bits) ps

unfoldable pub mark_cells : List Bool → List Carried → List Bool
mark_cells marks [] = marks
mark_cells marks (c ∷ cs) = mark_cells (mark_pins marks c.pins) cs

-- a marked net without a home gets the next place of the added wire
abbrev pub is_homeless : List (Option Home) → Bool → ℕ → Bool
is_homeless homes marked net = marked && not (is_some (get_or homes net (Some (record { wire = 0; bit = 0 }))))

-- the nets of the added wire in order, from a place and a net on
unfoldable pub others : List (Option Home) → ℕ → List Bool → List ℕ
others homes net [] = []
others homes net (m ∷ ms) = if is_homeless homes m net then net ∷ others homes (net + 1) ms else others homes (net + 1) ms

-- their homes
unfoldable pub settle_nets : List (Option Home) → ℕ → ℕ → List ℕ → List (Option Home)
settle_nets homes wire place [] = homes
settle_nets homes wire place (n ∷ ns) = settle_nets (settle homes (Net n) (record { wire = wire; bit = place })) wire (place + 1) ns
