-- What a module of a document breaks, in the order in which rules are looked at, with the names that are shown.
use Rattle.std.specs.Prelude.{◌≡◌, ◌⊎◌, ℕ, Bool, List, [], ◌∷◌, ◌++◌, map, get_or, Option, Some, None, slice_get}
use Rattle.lib_core.specs.declared.library.Library.{Library}
use Rattle.lib_core.specs.declared.library.Tri.{Tri}
use Rattle.rtlil_text.specs.declared.doc.DocModule.{DocModule}
use Rattle.net_loops.specs.Loops.{IsFirstLoop}
use Rattle.net_wires.specs.declared.breach.BuildCode.TheVariants as code
use Rattle.net_wires.specs.declared.clock.ClockRoot.{ClockRoot}
use Rattle.net_wires.specs.declared.number.Nets.{Nets}
use Rattle.net_wires.specs.Clocks.{AreClocks}
use Rattle.net_wires.specs.Ties.{Marks}
use Rattle.raw_cells.specs.declared.raw.RawCell.{RawCell}
use Rattle.net_gather.specs.Gather.{faults_of}
use Rattle.net_cells.specs.Wires.{AreStarts, wires_from}
use Rattle.net_checks.specs.declared.fault.ModuleFault.{ModuleFault}
use Rattle.net_checks.specs.declared.inouts.Inouts.{Inouts}
use Rattle.net_checks.specs.Checks.{checks_of, module_links}
use Rattle.net_checks.specs.ClockPins.{clock_drives}
use Rattle.net_checks.specs.Inouts.{ShowsInouts}
use Rattle.net_checks.specs.Names.{fault_of}
use Rattle.net_build.specs.declared.fault.Refused.{Refused}
use Rattle.net_build.specs.Means.{context_in, gathered_in, IsWired, nodes_of_cells, owners_of_nodes}

-- ---- breaches of wires, memories, cells and connects

-- each in file order, with its name
abbrev pub gather_faults : Library → List DocModule → DocModule → List ModuleFault
gather_faults lib modules d = map (fault_of d.items) (faults_of (context_in lib modules d) d.items)

-- ---- breaches of drivers, inouts, clocks, and rings of connects

-- these are all of them, in their order
pub record AreChecked (lib : Library) (modules : List DocModule) (d : DocModule) (faults : List ModuleFault) : Type 0 where
  pub inouts : Inouts
  pub shows : ShowsInouts modules inouts
  pub clocks : List ClockRoot
  pub are_clocks : AreClocks (module_links (gathered_in lib modules d)) (clock_drives d.items (gathered_in lib modules d)) clocks
  pub rings : List Bool
  pub are_rings : Marks (module_links (gathered_in lib modules d)) rings
  pub is : faults ≡ checks_of inouts d.items (gathered_in lib modules d) clocks rings

-- a breach that is no loop of cells
abbrev pub refused : ModuleFault → Refused
refused f = record { name = f.name; code = f.code; cells = []; seen = f.seen }

-- the first of these
abbrev pub IsFirstOf : List ModuleFault → Refused → Type 0
IsFirstOf faults r = (f : ModuleFault) × (rest : List ModuleFault) × (faults ≡ f ∷ rest) × (r ≡ refused f)

-- ---- loops

abbrev pub cell_name : Option RawCell → List ℕ
cell_name None = []
cell_name (Some c) = c.name

-- the names of the cells to which the nodes of a loop belong
abbrev pub loop_names : List RawCell → List ℕ → List ℕ → List (List ℕ)
loop_names cells owners cycle = map (λ i. cell_name (slice_get cells (get_or owners i 0))) cycle

abbrev pub first_name : List (List ℕ) → List ℕ
first_name [] = []
first_name (n ∷ ns) = n

-- a loop is shown with its cells, and the first of them as its name
abbrev pub looped : List (List ℕ) → Refused
looped names = record { name = first_name names; code = code.CombLoop; cells = names; seen = 0 }

-- The cells have a loop, which begins with the first node in file order that lies on any.
pub record IsLoopFault (lib : Library) (modules : List DocModule) (d : DocModule) (r : Refused) : Type 0 where
  pub nets : Nets
  pub roots : List ClockRoot
  pub starts : List Tri
  pub wired : IsWired d (gathered_in lib modules d) nets roots
  pub are_starts : AreStarts nets.count (wires_from nets.bits d.items) starts
  pub cycle : List ℕ
  pub loops : IsFirstLoop (nodes_of_cells lib modules d nets roots starts) cycle
  pub is : r ≡ looped (loop_names (gathered_in lib modules d).cells (owners_of_nodes lib modules d nets roots starts) cycle)

-- ---- the first breach of a module

-- Wires, memories, cells and connects come first; where nothing is wrong with these, drivers, inouts, clocks and rings of
-- connects; and then loops of cells.
abbrev pub IsFirst : Library → List DocModule → DocModule → Refused → Type 0
IsFirst lib modules d r =
    IsFirstOf (gather_faults lib modules d) r
    ⊎ ((gather_faults lib modules d ≡ []) × (((faults : List ModuleFault) × AreChecked lib modules d faults × IsFirstOf faults r) ⊎ (AreChecked lib modules d [] × IsLoopFault lib modules d r)))

-- nothing is wrong but for loops
pub record IsFaultless (lib : Library) (modules : List DocModule) (d : DocModule) : Type 0 where
  pub gathered : gather_faults lib modules d ≡ []
  pub checked : AreChecked lib modules d []
