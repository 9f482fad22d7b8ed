-- Marks on places, the places of wires, and the first wire with a marked bit.
use Rattle.std.specs.Prelude.{ℕ, ◌+◌, Bool, true, false, not, ◌&&◌, List, [], ◌∷◌, ◌++◌, Option, Some, None, get_or, slice_set, if◌then◌else◌}
use Rattle.std.specs.List.{list_any, range_with_len}
use Rattle.rtlil_text.specs.declared.doc.DocWire.{DocWire}
use Rattle.rtlil_text.specs.declared.doc.Item.{Item}
use Rattle.rtlil_text.specs.declared.doc.Item.TheVariants as item
use Rattle.net_wires.specs.declared.source.Source.{Source}
use Rattle.net_wires.specs.declared.source.Source.TheVariants as source
use Rattle.net_wires.specs.Signals.{run_bits}
use Rattle.net_checks.specs.declared.marking.Port.{Port}
use Rattle.net_checks.specs.declared.marking.Port.TheVariants as port

abbrev pub is_marked : List Bool → ℕ → Bool
is_marked marks p = get_or marks p false

-- no constant is marked
abbrev pub is_source_marked : List Bool → Source → Bool
is_source_marked marks (source.At p) = is_marked marks p
is_source_marked marks s = false

abbrev pub mark_source : List Bool → Source → List Bool
mark_source marks (source.At p) = slice_set marks p true
mark_source marks s = marks

abbrev pub mark_sources : List Bool → List Source → List Bool
mark_sources marks [] = marks
mark_sources marks (s ∷ ss) = mark_sources (mark_source marks s) ss

-- The first wire with a bit at a place that is so. Bits of wires stand one behind the other, in file order.
abbrev pub wire_with : (ℕ → Bool) → ℕ → List Item → Option (List ℕ)
wire_with is_so from [] = None
wire_with is_so from (item.Param p ∷ is) = wire_with is_so from is
wire_with is_so from (item.Wire w ∷ is) = if list_any is_so (range_with_len from w.width) then Some w.name else wire_with is_so (from + w.width) is
wire_with is_so from (item.Mem m ∷ is) = wire_with is_so from is
wire_with is_so from (item.Cell c ∷ is) = wire_with is_so from is
wire_with is_so from (item.Connect l r ∷ is) = wire_with is_so from is

-- an inout wire is no input
abbrev pub is_port : Port → DocWire → Bool
is_port port.Input w = w.input && not w.output
is_port port.Inout w = w.input && w.output

-- the bits of the wires that are such ports
abbrev pub port_bits : Port → ℕ → List Item → List Source
port_bits k from [] = []
port_bits k from (item.Param p ∷ is) = port_bits k from is
port_bits k from (item.Wire w ∷ is) = (if is_port k w then run_bits from w.width else []) ++ port_bits k (from + w.width) is
port_bits k from (item.Mem m ∷ is) = port_bits k from is
port_bits k from (item.Cell c ∷ is) = port_bits k from is
port_bits k from (item.Connect l r ∷ is) = port_bits k from is
