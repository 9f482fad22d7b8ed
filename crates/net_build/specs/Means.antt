-- Which design a document means under a library. Nothing here follows connects or counts: a module is what its items mean once
-- each place has its bit and its clock root, and these are told by what they have to satisfy. (Yosys manual, text
-- representation of RTLIL.)
use Rattle.std.specs.List.{flat_map}
use Rattle.std.specs.Prelude.{◌≡◌, ℕ, List, map, length}
use Rattle.lib_core.specs.declared.library.Library.{Library}
use Rattle.lib_core.specs.declared.library.RamKind.{RamKind}
use Rattle.lib_core.specs.declared.library.Tri.{Tri}
use Rattle.net_core.specs.declared.modules.Module.{Module}
use Rattle.net_core.specs.Nodes.{Node}
use Rattle.net_loops.specs.Loops.{HaveOrder}
use Rattle.rtlil_text.specs.declared.doc.DocModule.{DocModule}
use Rattle.rtlil_text.specs.Grammar.{memory_name, module_name}
use Rattle.cell_rows.specs.Kinds.{place_of}
use Rattle.net_wires.specs.declared.clock.ClockRoot.{ClockRoot}
use Rattle.net_wires.specs.declared.number.Nets.{Nets}
use Rattle.net_wires.specs.Clocks.{AreClocks}
use Rattle.net_wires.specs.Links.{links_of}
use Rattle.net_wires.specs.Nets.{InOrder, Solves}
use Rattle.net_wires.specs.Spans.{spans, wire_bits}
use Rattle.raw_cells.specs.Tied.{tied_of}
use Rattle.net_gather.specs.Ties.{ties_of}
use Rattle.net_gather.specs.declared.gathering.Gathered.{Gathered}
use Rattle.net_gather.specs.Cells.{Context}
use Rattle.net_gather.specs.Faces.{carried_drives, doc_interfaces}
use Rattle.net_gather.specs.Gather.{gathered}
use Rattle.net_cells.specs.Wires.{AreStarts, wires_from}
use Rattle.net_checks.specs.ClockPins.{clock_drives}
use Rattle.net_module.specs.Assembly.{module_of, rams_of}
use Rattle.net_module.specs.Nodes.{memories_in, nodes_in, owners_in}
use Rattle.net_module.specs.Made.{Wiring}

-- ---- what stands around the cells of a module of the document

abbrev pub ram_names : Library → List (List ℕ)
ram_names lib = map (λ (k : RamKind). k.name) lib.rams

-- the library, the wires and memories of the module, the RAMs of the library, the modules of the document, and what connects
-- alone tie to constants
abbrev pub context_in : Library → List DocModule → DocModule → Context
context_in lib modules d = record {
  library = lib;
  names = spans 0 d.items;
  memory = λ name. place_of (flat_map memory_name d.items) name;
  ram = λ name. place_of (ram_names lib) name;
  instance = λ name. place_of (map module_name modules) name;
  drives = λ kind pin. carried_drives (doc_interfaces modules) kind pin;
  tied = tied_of (wire_bits d.items) (ties_of (spans 0 d.items) d.items);
}

abbrev pub gathered_in : Library → List DocModule → DocModule → Gathered
gathered_in lib modules d = gathered (context_in lib modules d) d.items

-- ---- the bits and the clock roots of places

-- The places of a module have these bits and clock roots: the sides of each connect have one bit, the ends of connects have
-- nets of their own, which are numbered along the list of all bits; and each clock leads through connects and inverters to
-- its root.
pub record IsWired (d : DocModule) (g : Gathered) (nets : Nets) (roots : List ClockRoot) : Type 0 where
  pub long : length nets.bits ≡ g.places
  pub solves : Solves (links_of g.places g.pairs) nets.bits
  pub in_order : InOrder 0 nets.bits nets.count
  pub clocks : AreClocks (links_of g.places g.pairs) (clock_drives d.items g) roots

-- what the cells of a module are made of
abbrev pub wiring_of : Library → Nets → List ClockRoot → List Tri → Wiring
wiring_of lib nets roots starts = record { library = lib; places = nets.bits; roots = roots; starts = starts }

-- The nodes of a module in file order of its cells; those of memory cells stand for the read ports of the memories that are gathered of them.
abbrev pub nodes_of_cells : Library → List DocModule → DocModule → Nets → List ClockRoot → List Tri → List Node
nodes_of_cells lib modules d nets roots starts = nodes_in (memories_in d.items) (wiring_of lib nets roots starts) (gathered_in lib modules d).cells

-- for each node the number of its cell in file order
abbrev pub owners_of_nodes : Library → List DocModule → DocModule → Nets → List ClockRoot → List Tri → List ℕ
owners_of_nodes lib modules d nets roots starts = owners_in (memories_in d.items) (wiring_of lib nets roots starts) 0 (gathered_in lib modules d).cells

-- The module is what the items of a module mean, and its nodes have a combinational order.
pub record IsMeant (lib : Library) (modules : List DocModule) (d : DocModule) (m : Module) : Type 0 where
  pub nets : Nets
  pub roots : List ClockRoot
  pub starts : List Tri
  pub wired : IsWired d (gathered_in lib modules d) nets roots
  pub are_starts : AreStarts nets.count (wires_from nets.bits d.items) starts
  pub is : m ≡ module_of d (gathered_in lib modules d).cells nets.bits nets.count roots starts (rams_of lib nets.bits roots (gathered_in lib modules d).cells)
  pub ordered : HaveOrder (nodes_of_cells lib modules d nets roots starts)
