-- The inputs and outputs of a module in their order, what it is to those around it, and its clock roots. (RTLIL wires and
-- their port numbers; that carried cells count as ports is this project's own.)
use Rattle.std.specs.Prelude.{◌≡◌, ℕ, ℤ, Bool, true, false, cond, not, ◌&&◌, ◌||◌, List, [], ◌∷◌, ◌++◌, map, filter, length, Option, Some, None, slice_get, nat_eq, nat_le, position, option_map}
use Rattle.std.specs.List.{flat_map, find}
use Rattle.std.specs.Str.{bytes_eq}
use Rattle.net_core.specs.declared.bits.Bit.{Bit}
use Rattle.net_core.specs.declared.bits.Bit.TheVariants.{Zero as Low, One as High, Net}
use Rattle.net_core.specs.declared.bits.Clock.{Clock}
use Rattle.net_core.specs.declared.bits.Clock.TheVariants.{Root}
use Rattle.net_core.specs.declared.bits.Edge.{Edge}
use Rattle.net_core.specs.declared.bits.Event.{Event}
use Rattle.net_core.specs.declared.mems.Attr.{Attr}
use Rattle.net_core.specs.declared.mems.Mem.{Mem}
use Rattle.net_core.specs.declared.cells.Pin.{Pin}
use Rattle.net_core.specs.declared.cells.Carried.{Carried}
use Rattle.net_core.specs.declared.rams.RamCell.{RamCell}
use Rattle.net_core.specs.declared.modules.Wire.{Wire}
use Rattle.net_core.specs.declared.modules.Module.{Module}
use Rattle.net_core.specs.Values.{Happening}

-- an inout counts neither as an input nor as an output
abbrev pub is_input_wire : Wire → Bool
is_input_wire w = w.input && not w.output

abbrev pub is_output_wire : Wire → Bool
is_output_wire w = w.output && not w.input

abbrev pub is_inout : Wire → Bool
is_inout w = w.input && w.output

abbrev pub is_port : Wire → Bool
is_port w = w.input || w.output

-- the wire stands before the first whose port number is not less than its own
abbrev pub insert_port : Wire → List Wire → List Wire
insert_port w [] = w ∷ []
insert_port w (x ∷ xs) = cond (nat_le w.port x.port) (w ∷ x ∷ xs) (x ∷ insert_port w xs)

-- wires by port number; of equal numbers the earlier wire comes first
abbrev pub by_port : List Wire → List Wire
by_port [] = []
by_port (w ∷ ws) = insert_port w (by_port ws)

abbrev pub wire_bits : List Wire → List Bit
wire_bits ws = flat_map (λ w. w.bits) ws

-- the bits of the pins that the cell drives, and of those that it does not
abbrev pub bits_of_pins : List Pin → List Bit
bits_of_pins ps = flat_map (λ p. p.bits) ps

abbrev pub driving_bits : Carried → List Bit
driving_bits c = bits_of_pins (filter (λ p. p.drives) c.pins)

abbrev pub reading_bits : Carried → List Bit
reading_bits c = bits_of_pins (filter (λ p. not p.drives) c.pins)

-- the nets among these bits
abbrev pub nets_of : List Bit → List ℕ
nets_of [] = []
nets_of (Low ∷ bs) = nets_of bs
nets_of (High ∷ bs) = nets_of bs
nets_of (Net n ∷ bs) = n ∷ nets_of bs

-- the bits of input wires by port number, low bit first, then of the outputs of carried cells
abbrev pub input_bits : Module → List Bit
input_bits m = wire_bits (by_port (filter is_input_wire m.wires)) ++ flat_map driving_bits m.carried

-- the nets of the inputs, in the order in which an event gives their values
abbrev pub inputs_of : Module → List ℕ
inputs_of m = nets_of (input_bits m)

-- The outputs: the bits of output wires by port number, then of the pins of carried cells that these do not drive. An
-- inout pin of an instance is one of these: a module by itself does not tell it from an input.
abbrev pub outputs_of : Module → List Bit
outputs_of m = wire_bits (by_port (filter is_output_wire m.wires)) ++ flat_map reading_bits m.carried

-- what happens at an event of a module, whose edge names a net: its edge names the place of the input
abbrev pub edge_place : List ℕ → Option Edge → Option (ℕ × Bool)
edge_place inputs None = None
edge_place inputs (Some e) = option_map (λ place. (place, e.rising)) (position (λ n. nat_eq n e.net) inputs)

abbrev pub happening_of : List ℕ → Event → Happening
happening_of inputs e = record { values = e.values; edge = edge_place inputs e.edge }

-- a port as its surroundings see it: all of its wire but attributes and bits, and the number of bits
pub record PortFace : Type 0 where
  pub name : List ℕ
  pub port : ℕ
  pub input : Bool
  pub output : Bool
  pub offset : ℤ
  pub upto : Bool
  pub signed : Bool
  pub width : ℕ

abbrev pub face_of : Wire → PortFace
face_of w = record { name = w.name; port = w.port; input = w.input; output = w.output; offset = w.offset; upto = w.upto; signed = w.signed; width = length w.bits }

abbrev pub ports_of : Module → List PortFace
ports_of m = map face_of (filter is_port m.wires)

-- a carried cell but for the nets of its pins
pub record PinFace : Type 0 where
  pub name : List ℕ
  pub drives : Bool
  pub width : ℕ

pub record CarriedFace : Type 0 where
  pub name : List ℕ
  pub kind : List ℕ
  pub attrs : List Attr
  pub params : List Attr
  pub pins : List PinFace

abbrev pub pin_face : Pin → PinFace
pin_face p = record { name = p.name; drives = p.drives; width = length p.bits }

abbrev pub carried_face : Carried → CarriedFace
carried_face c = record { name = c.name; kind = c.kind; attrs = c.attrs; params = c.params; pins = map pin_face c.pins }

abbrev pub carried_of : Module → List CarriedFace
carried_of m = map carried_face m.carried

-- the name and the ports of a module, by which an instance of it is known
pub record Interface : Type 0 where
  pub name : List ℕ
  pub ports : List PortFace

abbrev pub interface_of : Module → Interface
interface_of m = record { name = m.name; ports = ports_of m }

abbrev pub face_is_inout : Option PortFace → Bool
face_is_inout None = false
face_is_inout (Some p) = p.input && p.output

abbrev pub port_is_inout : List ℕ → Option Interface → Bool
port_is_inout pin None = false
port_is_inout pin (Some i) = face_is_inout (find (λ p. bytes_eq p.name pin) i.ports)

-- this pin of a cell of this type is an inout: the type is a module, and its port of that name is one
abbrev pub is_inout_pin : List Interface → List ℕ → List ℕ → Bool
is_inout_pin modules kind pin = port_is_inout pin (find (λ i. bytes_eq i.name kind) modules)

-- the bits of inout wires, then those of inout pins of carried cells, in file order
abbrev pub inout_pin_bits : List Interface → Carried → List Bit
inout_pin_bits modules c = bits_of_pins (filter (λ p. is_inout_pin modules c.kind p.name) c.pins)

abbrev pub inout_bits : List Interface → Module → List Bit
inout_bits modules m = wire_bits (filter is_inout m.wires) ++ flat_map (inout_pin_bits modules) m.carried

abbrev pub same_bit : Bit → Bit → Bool
same_bit Low Low = true
same_bit Low b = false
same_bit High High = true
same_bit High b = false
same_bit (Net n) (Net k) = nat_eq n k
same_bit (Net n) Low = false
same_bit (Net n) High = false

abbrev pub both_same : Option Bit → Option Bit → Bool
both_same None b = false
both_same (Some a) None = false
both_same (Some a) (Some b) = same_bit a b

-- the bits at two places are one
abbrev pub are_joined : List Bit → ℕ → ℕ → Bool
are_joined bits i j = both_same (slice_get bits i) (slice_get bits j)

-- the clocks of all registers, memory ports and slots
abbrev pub read_clock : Option Clock → List Clock
read_clock None = []
read_clock (Some c) = c ∷ []

abbrev pub mem_clocks : Mem → List Clock
mem_clocks x = flat_map (λ r. read_clock r.clock) x.reads ++ map (λ w. w.clock) x.writes

abbrev pub ram_clocks : RamCell → List Clock
ram_clocks c = map (λ s. s.clock) c.slots

abbrev pub clocks_of : Module → List Clock
clocks_of m = map (λ r. r.clock) m.regs ++ (flat_map mem_clocks m.mems ++ flat_map ram_clocks m.rams)

-- the input at this place is a clock root: some clock has its edges
pub record IsClockRoot (m : Module) (place : ℕ) : Type 0 where
  pub net : ℕ
  pub rising : Bool
  pub clock : ℕ
  pub input : slice_get (inputs_of m) place ≡ Some net
  pub used : slice_get (clocks_of m) clock ≡ Some (Root net rising)
