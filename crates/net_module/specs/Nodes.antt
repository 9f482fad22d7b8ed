-- A module put together of what its cells become, and its nodes, with the cells that they belong to.
use Rattle.std.specs.Prelude.{◌≡◌, ℕ, ◌+◌, Option, List, [], ◌∷◌, ◌++◌, map, length, replicate}
use Rattle.std.specs.List.{flat_map}
use Rattle.cell_rows.specs.Kinds.{place_of}
use Rattle.net_core.specs.declared.mems.Mem.{Mem}
use Rattle.net_core.specs.declared.modules.MemPart.{MemPart}
use Rattle.net_core.specs.declared.modules.Module.{Module}
use Rattle.net_core.specs.declared.modules.Wire.{Wire}
use Rattle.lib_core.specs.declared.library.Library.{Library}
use Rattle.lib_core.specs.declared.library.Tri.{Tri}
use Rattle.net_core.specs.Nodes.{Node, comb_node, ram_nodes, reg_node}
use Rattle.rtlil_text.specs.declared.doc.DocModule.{DocModule}
use Rattle.rtlil_text.specs.declared.doc.Item.{Item}
use Rattle.rtlil_text.specs.Grammar.{All}
use Rattle.net_wires.specs.declared.clock.ClockRoot.{ClockRoot}
use Rattle.net_wires.specs.declared.number.Nets.{Nets}
use Rattle.doc_params.specs.Docs.{attrs_of}
use Rattle.raw_cells.specs.declared.raw.CellShape.{CellShape}
use Rattle.raw_cells.specs.declared.raw.CellShape.TheVariants as shape
use Rattle.raw_cells.specs.declared.raw.RawCell.{RawCell}
use Rattle.net_cells.specs.Wires.{AreStarts, declared, wires_from}
use Rattle.net_module.specs.Assembly.{module_of, rams_of}
use Rattle.net_module.specs.declared.assembly.Assembled.{Assembled}
use Rattle.net_module.specs.declared.assembly.Shell.{Shell}
use Rattle.net_loops.specs.Loops.{node_of}
use Rattle.net_module.specs.declared.bodies.Bodies.{Bodies}
use Rattle.net_module.specs.declared.made.Made.{Made}
use Rattle.net_module.specs.declared.made.Made.TheVariants as made
use Rattle.net_module.specs.Made.{carried_in, comb_in, made_of, part_in, ram_in, reg_in, Wiring}
use Rattle.net_module.specs.PartNodes.{IsWithinLimits, Memories, part_nodes}

-- a module of its pieces
unfoldable pub joined : ℕ → Shell → Bodies → Module
joined nets s b = record {
  name = s.name;
  attrs = s.attrs;
  nets = nets;
  wires = s.wires;
  declared = s.declared;
  parts = b.parts.items;
  mems = [];
  combs = b.combs.items;
  regs = b.regs.items;
  rams = b.rams.items;
  carried = b.carried.items;
}

abbrev pub shell_of : DocModule → List Wire → List Mem → Shell
shell_of d wires memories = record { name = d.name; attrs = attrs_of d.attrs; wires = wires; declared = memories }

abbrev pub all_made : Wiring → List RawCell → List Made
all_made w cells = map (λ c. made_of w c) cells

-- ---- nodes, in the order of the cells

abbrev pub shape_nodes : Memories → CellShape → MemPart → List Node
shape_nodes memories (shape.Comb r) p = []
shape_nodes memories (shape.Reg r) p = []
shape_nodes memories (shape.Carried k) p = []
shape_nodes memories (shape.Memory k r) p = part_nodes memories r p
shape_nodes memories (shape.Ram u) p = []

abbrev pub made_nodes : Memories → CellShape → Made → List Node
made_nodes memories s (made.Comb c) = comb_node c ∷ []
made_nodes memories s (made.Reg r) = reg_node r ∷ []
made_nodes memories s (made.Ram c) = ram_nodes c
made_nodes memories s (made.Carried c) = []
made_nodes memories s (made.Part p) = shape_nodes memories s p

abbrev pub cell_nodes : Memories → Wiring → RawCell → List Node
cell_nodes memories w c = made_nodes memories c.shape (made_of w c)

-- the nodes of all cells, in file order of the cells
abbrev pub nodes_in : Memories → Wiring → List RawCell → List Node
nodes_in memories w cells = flat_map (λ c. cell_nodes memories w c) cells

-- for each node the number of its cell, where cells are counted from k
abbrev pub owners_in : Memories → Wiring → ℕ → List RawCell → List ℕ
owners_in memories w k [] = []
owners_in memories w k (c ∷ cs) = replicate (length (cell_nodes memories w c)) k ++ owners_in memories w (k + 1) cs

-- a memory cell of this shape is within the limits
abbrev pub IsShapeWithin : CellShape → Type 0
IsShapeWithin (shape.Comb r) = Unit {0}
IsShapeWithin (shape.Reg r) = Unit {0}
IsShapeWithin (shape.Carried k) = Unit {0}
IsShapeWithin (shape.Memory k r) = IsWithinLimits r
IsShapeWithin (shape.Ram u) = Unit {0}

abbrev pub AreShapesWithin : List RawCell → Type 0
AreShapesWithin cells = All (λ (c : RawCell). IsShapeWithin c.shape) cells

abbrev pub names_of : List Mem → List (List ℕ)
names_of declared = map (λ (x : Mem). x.name) declared

abbrev pub widths_of : List Mem → List ℕ
widths_of declared = map (λ (x : Mem). x.width) declared

-- these memories are declared
pub record AreMemories (declared : List Mem) (m : Memories) : Type 0 where
  pub place : (name : List ℕ) → m.place name ≡ place_of (names_of declared) name
  pub widths : m.widths ≡ widths_of declared

-- the memories that these items declare
abbrev pub memories_in : List Item → Memories
memories_in items = record {
  place = λ name. place_of (names_of (declared items)) name;
  widths = widths_of (declared items);
}

-- a module and its nodes, put together of cells over these nets and clock roots
pub record Assembles (lib : Library) (nets : Nets) (roots : List ClockRoot) (d : DocModule) (cells : List RawCell) (a : Assembled) : Type 0 where
  pub starts : List Tri
  pub are_starts : AreStarts nets.count (wires_from nets.bits d.items) starts
  pub is : a.module ≡ module_of d cells nets.bits nets.count roots starts (rams_of lib nets.bits roots cells)
  pub nodes : map node_of a.nodes.items ≡ nodes_in (memories_in d.items) (record { library = lib; places = nets.bits; roots = roots; starts = starts }) cells
  pub owners : a.owners.items ≡ owners_in (memories_in d.items) (record { library = lib; places = nets.bits; roots = roots; starts = starts }) 0 cells
