-- What is driven in a module, and the breach where something is driven twice, or an input or a constant is driven.
use Rattle.std.specs.Prelude.{ℕ, Bool, false, ◌&&◌, ◌||◌, List, [], ◌∷◌, ◌++◌, map, length, Option, Some, None, nat_eq, if◌then◌else◌}
use Rattle.std.specs.List.{flat_map, list_any, range_with_len}
use Rattle.rtlil_text.specs.declared.doc.Item.{Item}
use Rattle.net_wires.specs.declared.breach.BuildCode.TheVariants as code
use Rattle.net_wires.specs.declared.link.Link.{Link}
use Rattle.net_wires.specs.declared.link.Link.TheVariants as links
use Rattle.net_wires.specs.declared.source.Pair.{Pair}
use Rattle.net_wires.specs.declared.source.Source.{Source}
use Rattle.net_wires.specs.Drivers.{has_conflict, is_constant, is_doubly_driven}
use Rattle.net_wires.specs.Links.{links_of}
use Rattle.net_wires.specs.Ties.{walk}
use Rattle.net_gather.specs.declared.gathering.Gathered.{Gathered}
use Rattle.raw_cells.specs.declared.raw.RawCell.{RawCell}
use Rattle.raw_cells.specs.declared.raw.RawPin.{RawPin}
use Rattle.net_checks.specs.declared.fault.ModuleFault.{ModuleFault}
use Rattle.net_checks.specs.declared.marking.Port.TheVariants as port
use Rattle.net_checks.specs.Finds.{broken, either, shown}
use Rattle.net_checks.specs.Marks.{port_bits, wire_with}

-- ---- what is driven, with one entry for each driver

abbrev pub pin_drives : RawPin → List Source
pin_drives p = if p.drives then p.bits else []

abbrev pub cell_drives : RawCell → List Source
cell_drives c = flat_map pin_drives c.pins

-- a connect drives its left side
abbrev pub left_of : Pair → Source
left_of p = p.left

-- the outside drives inputs
abbrev pub driven : List Item → Gathered → List Source
driven items g = port_bits port.Input 0 items ++ (map left_of g.pairs ++ flat_map cell_drives g.cells)

-- ---- the name

-- Where connects lead from a place. After as many as there are places they have come to their end, or go round.
abbrev pub end_of : List Link → ℕ → Link
end_of t p = walk t (length t) (links.To p)

-- both are one place that no connect drives
abbrev pub is_one_end : Link → Link → Bool
is_one_end (links.End a) (links.End b) = nat_eq a b
is_one_end (links.End a) links.Zero = false
is_one_end (links.End a) links.One = false
is_one_end (links.End a) (links.To b) = false
is_one_end links.Zero y = false
is_one_end links.One y = false
is_one_end (links.To a) y = false

-- the two places are one, or connects lead from both to one place
abbrev pub are_joined : (ℕ → Link) → ℕ → ℕ → Bool
are_joined ends p q = nat_eq p q || is_one_end (ends p) (ends q)

-- one of n places is so and joined with p
abbrev pub is_joined_with : (ℕ → Link) → (ℕ → Bool) → ℕ → ℕ → Bool
is_joined_with ends is_so n p = list_any (λ q. is_so q && are_joined ends p q) (range_with_len 0 n)

-- the place is joined with one that is driven twice
abbrev pub is_contested : List Item → Gathered → ℕ → Bool
is_contested items g p = is_joined_with (end_of (links_of g.places g.pairs)) (is_doubly_driven (driven items g)) g.places p

-- a pin of the cell drives a constant
abbrev pub pin_drives_constant : RawPin → Bool
pin_drives_constant p = p.drives && list_any is_constant p.bits

abbrev pub drives_constant : RawCell → Bool
drives_constant c = list_any pin_drives_constant c.pins

-- the first such cell
abbrev pub constant_driver : List RawCell → Option (List ℕ)
constant_driver [] = None
constant_driver (c ∷ cs) = if drives_constant c then Some c.name else constant_driver cs

abbrev pub driver_name : List Item → Gathered → List ℕ
driver_name items g = shown (either (wire_with (is_contested items g) 0 items) (constant_driver g.cells))

-- ---- the breach

abbrev pub driver_faults : List Item → Gathered → List ModuleFault
driver_faults items g = if has_conflict g.places (driven items g) then broken code.TwoDrivers (driver_name items g) ∷ [] else []
