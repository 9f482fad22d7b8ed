-- What is driven in a module: the bits of input wires, the left sides of connects, and the pins that cells drive. And what is
-- known of the bits of its places.
use Rattle.std.specs.Prelude.{◌≡◌, ℕ, ◌+◌, ◌&&◌, not, false, List, [], ◌∷◌, ◌++◌, map, if◌then◌else◌}
use Rattle.std.specs.List.{flat_map}
use Rattle.rtlil_text.specs.declared.doc.DocModule.{DocModule}
use Rattle.rtlil_text.specs.declared.doc.DocWire.{DocWire}
use Rattle.rtlil_text.specs.declared.doc.Item.{Item}
use Rattle.rtlil_text.specs.declared.doc.Item.TheVariants as item
use Rattle.net_core.specs.declared.bits.Bit.{Bit}
use Rattle.net_wires.specs.declared.source.Pair.{Pair}
use Rattle.net_wires.specs.declared.source.Source.{Source}
use Rattle.net_wires.specs.Drivers.{has_conflict}
use Rattle.net_wires.specs.Links.{links_of}
use Rattle.net_wires.specs.Nets.{Resolves}
use Rattle.net_wires.specs.Signals.{run_bits}
use Rattle.net_wires.specs.Spans.{spans}
use Rattle.net_gather.specs.declared.gathering.Gathered.{Gathered}
use Rattle.raw_cells.specs.declared.raw.RawCell.{RawCell}
use Rattle.net_gather.specs.Cells.{Context}
use Rattle.net_gather.specs.Gather.{gathered}
use Rattle.net_fits.specs.Rams.{driving_sources}

-- the bits of an input wire; an inout is none
abbrev pub input_run : ℕ → DocWire → List Source
input_run from w = if w.input && not w.output then run_bits from w.width else []

-- the bits of input wires, where the places of the wires stand from a number on
abbrev pub input_sources : ℕ → List Item → List Source
input_sources from [] = []
input_sources from (item.Wire w ∷ is) = input_run from w ++ input_sources (from + w.width) is
input_sources from (item.Param p ∷ is) = input_sources from is
input_sources from (item.Mem m ∷ is) = input_sources from is
input_sources from (item.Cell c ∷ is) = input_sources from is
input_sources from (item.Connect l r ∷ is) = input_sources from is

abbrev pub left_sources : List Pair → List Source
left_sources pairs = map (λ (p : Pair). p.left) pairs

abbrev pub cell_sources : List RawCell → List Source
cell_sources cs = flat_map (λ (c : RawCell). driving_sources c.pins) cs

-- what is driven, one entry for each driver
abbrev pub driven_of : List Item → Gathered → List Source
driven_of is g = input_sources 0 is ++ (left_sources g.pairs ++ cell_sources g.cells)

-- The bits of the places of a gathered module, with so many nets: connects are followed, and no place has two drivers, and no
-- constant has one.
pub record IsSolved (x : Context) (m : DocModule) (places : List Bit) (count : ℕ) : Type 0 where
  pub names : x.names ≡ spans 0 m.items
  pub resolves : Resolves (links_of (gathered x m.items).places (gathered x m.items).pairs) places count
  pub drivers : has_conflict (gathered x m.items).places (driven_of m.items (gathered x m.items)) ≡ false
