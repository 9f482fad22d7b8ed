-- The laws of whole modules that are made of gathered cells.
use Rattle.std.specs.Prelude.{◌≡◌, ◌<◌, ℕ, List, Option, Some, slice_get}
use Rattle.lib_core.specs.declared.library.Library.{Library}
use Rattle.lib_core.specs.declared.library.Tri.{Tri}
use Rattle.rtlil_text.specs.declared.doc.DocModule.{DocModule}
use Rattle.rtlil_text.specs.declared.doc.Item.{Item}
use Rattle.net_core.specs.declared.bits.Bit.{Bit}
use Rattle.net_core.specs.declared.rams.RamCell.{RamCell}
use Rattle.net_core.specs.Nodes.{Drives, HasNet, Node, nodes_of}
use Rattle.net_core.specs.Pins.{all_bits}
use Rattle.net_core.specs.Ports.{Interface}
use Rattle.net_core.specs.Valid.{AreApart, cell_names}
use Rattle.net_wires.specs.declared.clock.ClockRoot.{ClockRoot}
use Rattle.net_gather.specs.declared.faces.Faces.{Faces}
use Rattle.net_gather.specs.Cells.{Context}
use Rattle.net_gather.specs.Faces.{doc_interfaces, Shows}
use Rattle.net_gather.specs.Gather.{context, gathered}
use Rattle.net_module.specs.Assembly.{module_of}
use Rattle.net_fits.specs.Cells.{IsSound, Knows}
use Rattle.net_fits.specs.Driven.{IsSolved}
use Rattle.net_fits.specs.Rams.{AreRams}

-- The law: what stands around the cells of a module tells what the interfaces of the file's modules tell.
abbrev pub ContextKnows : Type 0
ContextKnows = (lib : Library) (ram : List ℕ → Option ℕ) (faces : Faces) (ms : List DocModule) (is : List Item) → Shows ms faces → Knows (doc_interfaces ms) (context lib ram faces is)

-- The law: no two cells of the module have one name.
abbrev pub CellNamesApart : Type 0
CellNamesApart = (modules : List Interface) (x : Context) (m : DocModule) (places : List Bit) (count : ℕ) (roots : List ClockRoot) (starts : List Tri) (rams : List RamCell) → IsSound modules x m → AreRams places count (gathered x m.items).cells rams
    → AreApart (cell_names (module_of m (gathered x m.items).cells places count roots starts rams))

-- The law: each net of the module has a number of the module.
abbrev pub NetsAreBelow : Type 0
NetsAreBelow = (x : Context) (m : DocModule) (places : List Bit) (count : ℕ) (roots : List ClockRoot) (starts : List Tri) (rams : List RamCell) → IsSolved x m places count → AreRams places count (gathered x m.items).cells rams
    → (n : ℕ) → HasNet (all_bits (module_of m (gathered x m.items).cells places count roots starts rams)) n → n < (module_of m (gathered x m.items).cells places count roots starts rams).nets

-- The law: and so does each net that a node drives.
abbrev pub DrivenNetsAreBelow : Type 0
DrivenNetsAreBelow = (x : Context) (m : DocModule) (places : List Bit) (count : ℕ) (roots : List ClockRoot) (starts : List Tri) (rams : List RamCell) → IsSolved x m places count → AreRams places count (gathered x m.items).cells rams
    → (k : ℕ) (p : Node) → slice_get (nodes_of (module_of m (gathered x m.items).cells places count roots starts rams)) k ≡ Some p → (n : ℕ) → Drives p n → n < (module_of m (gathered x m.items).cells places count roots starts rams).nets
