-- What the steps of building a module answer, one after the other.
use Rattle.std.specs.List.{flat_map}
use Rattle.rtlil_text.specs.Grammar.{AreDistinct, wire_name}
use Rattle.std.specs.Prelude.{◌≡◌, ℕ, Bool, List, [], map, Result, Ok, Err}
use Rattle.lib_core.specs.declared.library.Library.{Library}
use Rattle.net_core.specs.declared.modules.Module.{Module}
use Rattle.rtlil_text.specs.declared.doc.DocModule.{DocModule}
use Rattle.cell_rows.specs.Kinds.{found, place_of}
use Rattle.net_loops.specs.Loops.{HaveOrder, IsFirstLoop, node_of}
use Rattle.net_wires.specs.declared.clock.ClockRoot.{ClockRoot}
use Rattle.net_wires.specs.Clocks.{AreClocks}
use Rattle.net_wires.specs.Ties.{Marks}
use Rattle.net_gather.specs.declared.gathering.Gathered.{Gathered}
use Rattle.net_gather.specs.Faces.{Shows}
use Rattle.net_checks.specs.declared.checking.Checked.{Checked}
use Rattle.rtlil_text.specs.declared.doc.Item.{Item}
use Rattle.net_gather.specs.declared.fault.Halt.{Halt}
use Rattle.net_gather.specs.declared.fault.Halt.TheVariants as halt
use Rattle.net_checks.specs.declared.fault.ModuleFault.{ModuleFault}
use Rattle.net_checks.specs.declared.fault.ModuleHalt.{ModuleHalt}
use Rattle.net_checks.specs.declared.fault.ModuleHalt.TheVariants as modules
use Rattle.net_checks.specs.Names.{fault_of}
use Rattle.net_checks.specs.declared.inouts.Inouts.{Inouts}
use Rattle.net_checks.specs.Checks.{checks_of, IsChecked, module_links}
use Rattle.net_checks.specs.ClockPins.{clock_drives}
use Rattle.net_checks.specs.Inouts.{ShowsInouts}
use Rattle.net_module.specs.declared.assembly.Assembled.{Assembled}
use Rattle.raw_cells.specs.declared.raw.RawCell.{RawCell}
use Rattle.net_build.specs.declared.module.Around.{Around}
use Rattle.net_build.specs.declared.fault.Refusal.{Refusal}
use Rattle.net_build.specs.declared.fault.Refused.{Refused}
use Rattle.net_build.specs.declared.fault.Refusal.TheVariants as refusal
use Rattle.net_build.specs.Faults.{gather_faults, IsFirstOf, loop_names, looped, refused}
use Rattle.net_build.specs.Means.{gathered_in, ram_names}

-- the RAMs of the library and the modules of the document, as the code looks them up
pub record IsAround (a : Around) : Type 0 where
  pub rams : (name : List ℕ) → found a.rams.now name ≡ place_of (ram_names a.library.now) name
  pub faces : Shows a.modules.now a.faces.now
  pub inouts : ShowsInouts a.modules.now a.inouts.now

-- memory ran out, or this is the first of the faults
abbrev pub Refuses : List ModuleFault → Refusal → Type 0
Refuses faults refusal.Memory = Unit {0}
Refuses faults (refusal.Broken r) = IsFirstOf faults r

-- memory ran out, or this is the fault
abbrev pub RefusesAt : ModuleFault → Refusal → Type 0
RefusesAt f refusal.Memory = Unit {0}
RefusesAt f (refusal.Broken r) = r ≡ refused f

-- the refusal of a halt
abbrev pub RefusesHalt : List Item → Halt → Refusal → Type 0
RefusesHalt is halt.Memory e = e ≡ refusal.Memory
RefusesHalt is (halt.Broken f) e = RefusesAt (fault_of is f) e

abbrev pub RefusesModule : ModuleHalt → Refusal → Type 0
RefusesModule modules.Memory e = e ≡ refusal.Memory
RefusesModule (modules.Broken f) e = e ≡ refusal.Broken (refused f)

-- memory ran out, or this is the refusal
abbrev pub RefusesLoop : Refused → Refusal → Type 0
RefusesLoop broken refusal.Memory = Unit {0}
RefusesLoop broken (refusal.Broken r) = r ≡ broken

abbrev pub Gathers : Library → List DocModule → DocModule → Result Gathered Refusal → Type 0
Gathers lib modules d (Ok g) = (gather_faults lib modules d ≡ []) × (g ≡ gathered_in lib modules d)
Gathers lib modules d (Err e) = Refuses (gather_faults lib modules d) e

abbrev pub ChecksTo : Inouts → DocModule → Gathered → List ClockRoot → List Bool → Result Checked Refusal → Type 0
ChecksTo x d g clocks rings (Ok made) = (checks_of x d.items g clocks rings ≡ []) × IsChecked g clocks made
ChecksTo x d g clocks rings (Err e) = Refuses (checks_of x d.items g clocks rings) e

-- where places lead, and which lie on rings
pub record Checks (x : Inouts) (d : DocModule) (g : Gathered) (result : Result Checked Refusal) : Type 0 where
  pub clocks : List ClockRoot
  pub are_clocks : AreClocks (module_links g) (clock_drives d.items g) clocks
  pub rings : List Bool
  pub are_rings : Marks (module_links g) rings
  pub is : ChecksTo x d g clocks rings result

-- an order of the nodes, or the first loop
abbrev pub Orders : List RawCell → Assembled → Result Module Refusal → Type 0
Orders cells a (Ok m) = (m ≡ a.module) × HaveOrder (map node_of a.nodes.items)
Orders cells a (Err refusal.Memory) = Unit {0}
Orders cells a (Err (refusal.Broken r)) = (cycle : List ℕ) × IsFirstLoop (map node_of a.nodes.items) cycle × (r ≡ looped (loop_names cells a.owners.items cycle))

-- nothing is wrong with what was looked at so far, and this was found
pub record IsSoFar (a : Around) (d : DocModule) (g : Gathered) (made : Checked) : Type 0 where
  pub around : IsAround a
  pub sound : gather_faults a.library.now a.modules.now d ≡ []
  pub gathered : g ≡ gathered_in a.library.now a.modules.now d
  pub checks : Checks a.inouts.now d g (Ok made)

-- no two wires of the module have one name
abbrev pub HasNewWires : DocModule → Type 0
HasNewWires d = AreDistinct (flat_map wire_name d.items)
