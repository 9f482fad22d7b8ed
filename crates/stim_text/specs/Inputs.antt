-- The inputs of a module as a stimulus names them: wires and pins of carried cells by their names, and which nets are clocks.
use Rattle.std.specs.Prelude.{ℕ, ◌+◌, Bool, ◌&&◌, List, [], ◌∷◌, ◌++◌, length, filter, Option, Some, None, nat_eq, if◌then◌else◌}
use Rattle.std.specs.List.{list_any}
use Rattle.std.specs.Str.{bytes_eq}
use Rattle.net_core.specs.declared.bits.Clock.{Clock}
use Rattle.net_core.specs.declared.bits.Clock.TheVariants as clock
use Rattle.net_core.specs.declared.cells.Carried.{Carried}
use Rattle.net_core.specs.declared.cells.Pin.{Pin}
use Rattle.net_core.specs.declared.modules.Module.{Module}
use Rattle.net_core.specs.declared.modules.Wire.{Wire}
use Rattle.net_core.specs.Ports.{by_port, is_input_wire, wire_bits, driving_bits, input_bits, clocks_of}
use Rattle.stim_text.specs.declared.names.Span.{Span}
use Rattle.stim_text.specs.declared.tables.Tables.{Tables}

-- ---- where the bits of an input stand among those of all inputs

abbrev pub span : ℕ → ℕ → Span
span start width = record { start = start; width = width }

abbrev pub Wires : Type 0
Wires = List (List ℕ × Span)

-- cell, pin and place
abbrev pub Pins : Type 0
Pins = List ((List ℕ × List ℕ) × Span)

unfoldable pub wire_at : Wires → List ℕ → Option Span
wire_at [] n = None
wire_at (e ∷ es) n = if bytes_eq n e.0 then Some e.1 else wire_at es n

abbrev pub is_pin : List ℕ → List ℕ → List ℕ × List ℕ → Bool
is_pin cell pin names = bytes_eq cell names.0 && bytes_eq pin names.1

unfoldable pub pin_at : Pins → List ℕ → List ℕ → Option Span
pin_at [] cell pin = None
pin_at (e ∷ es) cell pin = if is_pin cell pin e.0 then Some e.1 else pin_at es cell pin

abbrev pub add_wire : Option Span → Wires → List ℕ → Span → Wires
add_wire None t n s = t ++ (n, s) ∷ []
add_wire (Some found) t n s = t

-- the first of a name counts
unfoldable pub with_wire : Wires → List ℕ → Span → Wires
with_wire t n s = add_wire (wire_at t n) t n s

abbrev pub add_pin : Option Span → Pins → List ℕ → List ℕ → Span → Pins
add_pin None t cell pin s = t ++ ((cell, pin), s) ∷ []
add_pin (Some found) t cell pin s = t

unfoldable pub with_pin : Pins → List ℕ → List ℕ → Span → Pins
with_pin t cell pin s = add_pin (pin_at t cell pin) t cell pin s

-- wires whose bits stand one behind the other, from a place on
unfoldable pub with_wires : ℕ → Wires → List Wire → Wires
with_wires start t [] = t
with_wires start t (w ∷ ws) = with_wires (start + length w.bits) (with_wire t w.name (span start (length w.bits))) ws

-- the pins that a cell drives
unfoldable pub with_pins : ℕ → Pins → List ℕ → List Pin → Pins
with_pins start t cell [] = t
with_pins start t cell (p ∷ ps) = if p.drives then with_pins (start + length p.bits) (with_pin t cell p.name (span start (length p.bits))) cell ps else with_pins start t cell ps

unfoldable pub with_cells : ℕ → Pins → List Carried → Pins
with_cells start t [] = t
with_cells start t (c ∷ cs) = with_cells (start + length (driving_bits c)) (with_pins start t c.name c.pins) cs

-- ---- clocks

abbrev pub has_net : List ℕ → ℕ → Bool
has_net nets n = list_any (λ k. nat_eq n k) nets

abbrev pub with_net : List ℕ → ℕ → List ℕ
with_net nets n = if has_net nets n then nets else nets ++ n ∷ []

-- the nets whose edges clocks have
unfoldable pub with_roots : List ℕ → List Clock → List ℕ
with_roots nets [] = nets
with_roots nets (clock.Root n rising ∷ cs) = with_roots (with_net nets n) cs
with_roots nets (clock.Never ∷ cs) = with_roots nets cs

-- ---- the inputs of a module

-- the input wires by port number
abbrev pub input_wires : Module → List Wire
input_wires m = by_port (filter is_input_wire m.wires)

unfoldable pub tables_of : Module → Tables
tables_of m = record {
  bits = input_bits m;
  wires = with_wires 0 [] (input_wires m);
  pins = with_cells (length (wire_bits (input_wires m))) [] m.carried;
  roots = with_roots [] (clocks_of m);
}
