-- Laws of the checks.
use Rattle.std.specs.Prelude.{◌≡◌, ℕ, ◌<◌, Bool, List, []}
use Rattle.std.specs.List.{flat_map}
use Rattle.rtlil_text.specs.declared.doc.DocModule.{DocModule}
use Rattle.rtlil_text.specs.declared.doc.Item.{Item}
use Rattle.rtlil_text.specs.Grammar.{All, AreDistinct, wire_name}
use Rattle.net_core.specs.Ports.{is_inout_pin}
use Rattle.net_wires.specs.declared.clock.ClockRoot.{ClockRoot}
use Rattle.net_wires.specs.declared.link.Link.{Link}
use Rattle.net_wires.specs.declared.link.Link.TheVariants.{To}
use Rattle.net_wires.specs.declared.source.Pair.{Pair}
use Rattle.net_wires.specs.Clocks.{AreClocks}
use Rattle.net_wires.specs.Links.{links_of, PairsWithin}
use Rattle.net_wires.specs.Spans.{spans}
use Rattle.net_wires.specs.Ties.{Circles, Leads, Marks}
use Rattle.net_gather.specs.declared.gathering.Gathered.{Gathered}
use Rattle.net_gather.specs.Cells.{Context}
use Rattle.net_gather.specs.Faces.{doc_interfaces}
use Rattle.net_gather.specs.Gather.{faults_of, gathered}
use Rattle.net_checks.specs.declared.inouts.Inouts.{Inouts}
use Rattle.net_checks.specs.Checks.{IsSound, module_links}
use Rattle.net_checks.specs.ClockPins.{clock_drives}
use Rattle.net_checks.specs.Driven.{end_of}
use Rattle.net_checks.specs.Inouts.{has_inout, ShowsInouts}

-- The law: what is gathered where nothing is wrong can be checked.
abbrev pub GatheredIsSound : Type 0
GatheredIsSound = (x : Context) (items : List Item) → x.names ≡ spans 0 items → faults_of x items ≡ [] → IsSound items (gathered x items)

-- The law: where the wires of each module have different names, the inout pins are those that the interfaces of the modules have.
abbrev pub ShownInouts : Type 0
ShownInouts = (ms : List DocModule) (x : Inouts) → ShowsInouts ms x → All (λ (m : DocModule). AreDistinct (flat_map wire_name m.items)) ms
    → (kind pin : List ℕ) → has_inout x kind pin ≡ is_inout_pin (doc_interfaces ms) kind pin

-- The law: places lead somewhere, and marks of rings are there.
abbrev pub AnswersAreThere : Type 0
AnswersAreThere = (items : List Item) (g : Gathered) → IsSound items g
    → ((clocks : List ClockRoot) × AreClocks (module_links g) (clock_drives items g) clocks) × ((rings : List Bool) × Marks (module_links g) rings)

-- The law: what a place leads to is its end, and a place that leads onto a ring has none.
abbrev pub EndsAreEnds : Type 0
EndsAreEnds = (n : ℕ) (ps : List Pair) (p : ℕ) → PairsWithin n ps → p < n
    → ((e : Link) → Leads (links_of n ps) (To p) e → end_of (links_of n ps) p ≡ e) × ((j : ℕ) → Circles (links_of n ps) p j → (k : ℕ) × (end_of (links_of n ps) p ≡ To k))
