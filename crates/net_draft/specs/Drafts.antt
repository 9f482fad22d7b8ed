-- The document that says a design whose memories are whole.
use Rattle.std.specs.Prelude.{◌≡◌, ℕ, Bool, false, List, [], ◌∷◌, ◌++◌, map, length, replicate, codes, Option}
use Rattle.lib_core.specs.declared.library.Library.{Library}
use Rattle.net_core.specs.declared.cells.Carried.{Carried}
use Rattle.net_core.specs.declared.modules.Module.{Module}
use Rattle.net_core.specs.declared.modules.Wire.{Wire}
use Rattle.rtlil_text.specs.declared.doc.DocModule.{DocModule}
use Rattle.rtlil_text.specs.declared.doc.Item.{Item}
use Rattle.net_draft.specs.declared.homes.Home.{Home}
use Rattle.net_draft.specs.declared.signals.Face.{Face}
use Rattle.net_draft.specs.declared.signals.Sheet.{Sheet}
use Rattle.net_draft.specs.declared.starts.Start.{Start}
use Rattle.net_draft.specs.Cells.{AreCells, cell_items}
use Rattle.net_draft.specs.Connects.{connects}
use Rattle.net_draft.specs.Homes.{mark_cells, others, settle_nets, wire_homes}
use Rattle.net_draft.specs.Naming.{IsFresh}
use Rattle.net_draft.specs.Starts.{starts_of}
use Rattle.net_draft.specs.Taking.{taken_names, with_mems}
use Rattle.net_draft.specs.Wires.{added_items, doc_attrs, face_of, wire_items}

-- ---- nets

-- the nets at the pins of these cells and of those that the module carries
abbrev pub marks_of : Module → List Carried → List Bool
marks_of m cells = mark_cells (mark_cells (replicate m.nets false) cells) m.carried

-- the nets that some cell has and no wire
unfoldable pub added_nets : Module → List Carried → List ℕ
added_nets m cells = others (wire_homes m.nets m.wires) 0 (marks_of m cells)

-- the added wire stands behind all others
abbrev pub added_face : List ℕ → List ℕ → Face
added_face name nets = record { name = name; width = length nets }

abbrev pub all_faces : List Wire → List ℕ → List ℕ → List Face
all_faces ws name nets = map (λ w. face_of w) ws ++ added_face name nets ∷ []

abbrev pub homes_of : Module → List ℕ → List (Option Home)
homes_of m nets = settle_nets (wire_homes m.nets m.wires) (length m.wires) 0 nets

unfoldable pub sheet_of : Module → List ℕ → List ℕ → Sheet
sheet_of m name nets = record { faces = all_faces m.wires name nets; homes = homes_of m nets }

-- ---- modules

abbrev pub starts : Module → List Start
starts m = starts_of m.nets m.regs m.carried

abbrev pub all_wires : Module → List ℕ → List ℕ → List Item
all_wires m name nets = wire_items (starts m) m.wires ++ added_items (starts m) name nets

-- cells: those of the module but for the ones that it carries
abbrev pub items_on : Module → Sheet → List ℕ → List ℕ → List Carried → List Item
items_on m sheet name nets cells =
    ((all_wires m name nets ++ cell_items sheet cells) ++ cell_items sheet m.carried) ++ connects sheet 0 m.wires

unfoldable pub items_of : Module → List ℕ → List Carried → List Item
items_of m name cells = items_on m (sheet_of m name (added_nets m cells)) name (added_nets m cells) cells

abbrev pub doc_module : Module → List ℕ → List Carried → DocModule
doc_module m name cells = record { attrs = doc_attrs m.attrs; name = m.name; items = items_of m name cells }

-- the document of a module: cells of memories and the added wire have new names
pub record IsDrafted (lib : Library) (m : Module) (d : DocModule) : Type 0 where
  pub cells : List Carried
  pub taken : List (List ℕ)
  pub are_cells : AreCells lib (taken_names m) m cells taken
  pub added : List ℕ
  pub fresh : IsFresh (with_mems taken m.mems) (codes "$net") added
  pub document : d ≡ doc_module m added cells

-- modules one by one
abbrev pub AreDrafted : Library → List Module → List DocModule → Type 0
AreDrafted lib [] [] = Unit {0}
AreDrafted lib [] (d ∷ ds) = ⊥
AreDrafted lib (m ∷ ms) [] = ⊥
AreDrafted lib (m ∷ ms) (d ∷ ds) = IsDrafted lib m d × AreDrafted lib ms ds
