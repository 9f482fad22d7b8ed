-- What a module breaks once its cells, pins and connects are known, in the order in which it is looked at.
use Rattle.std.specs.Prelude.{◌≡◌, ◌≤◌, Bool, List, [], ◌∷◌, ◌++◌, if◌then◌else◌}
use Rattle.std.specs.List.{list_any}
use Rattle.rtlil_text.specs.declared.doc.Item.{Item}
use Rattle.net_wires.specs.declared.breach.BuildCode.TheVariants as code
use Rattle.net_wires.specs.declared.clock.ClockRoot.{ClockRoot}
use Rattle.net_wires.specs.declared.link.Link.{Link}
use Rattle.net_wires.specs.Links.{links_of, PairsWithin}
use Rattle.net_wires.specs.Nets.{Resolves}
use Rattle.net_wires.specs.Spans.{spans, wire_bits}
use Rattle.net_gather.specs.declared.gathering.Gathered.{Gathered}
use Rattle.net_gather.specs.Laws.{CellsWithin}
use Rattle.net_checks.specs.declared.checking.Checked.{Checked}
use Rattle.net_checks.specs.declared.fault.ModuleFault.{ModuleFault}
use Rattle.net_checks.specs.declared.inouts.Inouts.{Inouts}
use Rattle.net_checks.specs.ClockPins.{clock_faults}
use Rattle.net_checks.specs.Driven.{driver_faults}
use Rattle.net_checks.specs.Finds.{broken, shown}
use Rattle.net_checks.specs.Inouts.{inout_bits, inout_faults, is_among}
use Rattle.net_checks.specs.Marks.{is_marked, wire_with}

-- where each place leads by one connect
abbrev pub module_links : Gathered → List Link
module_links g = links_of g.places g.pairs

-- connects alone make a ring, where the marks say which places lie on one
abbrev pub ring_faults : List Bool → List Item → List ModuleFault
ring_faults rings items = if list_any (λ on. on) rings then broken code.CombLoop (shown (wire_with (is_marked rings) 0 items)) ∷ [] else []

abbrev pub module_inouts : Inouts → List Item → Gathered → List ModuleFault
module_inouts x items g = inout_faults (is_among (inout_bits x items g.cells)) (spans 0 items) g.cells items

-- Drivers, inouts, clocks, and rings of connects, where places lead to these clocks, and these lie on rings.
abbrev pub checks_of : Inouts → List Item → Gathered → List ClockRoot → List Bool → List ModuleFault
checks_of x items g clocks rings = driver_faults items g ++ (module_inouts x items g ++ (clock_faults clocks g.cells ++ ring_faults rings items))

-- the bits of places, with their nets in the order of their first bits, and where places lead
pub record IsChecked (g : Gathered) (clocks : List ClockRoot) (made : Checked) : Type 0 where
  pub places : Resolves (module_links g) made.places.bits made.places.count
  pub roots : made.roots ≡ clocks

-- What is gathered of items with which nothing was wrong so far.
pub record IsSound (items : List Item) (g : Gathered) : Type 0 where
  -- the wires have the first places
  pub wires : g.wire_places ≡ wire_bits items
  pub first : g.wire_places ≤ g.places
  pub few : g.places ≤ 4194304
  pub pairs : PairsWithin g.places g.pairs
  pub cells : CellsWithin g.places g.cells
