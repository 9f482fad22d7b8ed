-- The ports of the modules of a file, by which instances of them are known, and which pins of kept cells are driven.
use Rattle.std.specs.Prelude.{◌≡◌, ℕ, Bool, false, not, ◌&&◌, ◌||◌, List, [], ◌∷◌, map, Option, Some, None, slice_get, if◌then◌else◌}
use Rattle.std.specs.List.{flat_map}
use Rattle.rtlil_text.specs.declared.doc.DocModule.{DocModule}
use Rattle.rtlil_text.specs.declared.doc.DocWire.{DocWire}
use Rattle.rtlil_text.specs.declared.doc.Item.{Item}
use Rattle.rtlil_text.specs.declared.doc.Item.TheVariants as item
use Rattle.rtlil_text.specs.Grammar.{module_name}
use Rattle.net_core.specs.Ports.{Interface, PortFace}
use Rattle.net_core.specs.Valid.{drives_by_kind, instance_of, is_there, kind_of}
use Rattle.cell_rows.specs.Carried.{drives}
use Rattle.cell_rows.specs.Kinds.{found, is_carried, place_of}
use Rattle.net_gather.specs.declared.faces.Faces.{Faces}

-- ---- what a document says

abbrev pub wire_face : DocWire → PortFace
wire_face w = record { name = w.name; port = w.port; input = w.input; output = w.output; offset = w.offset; upto = w.upto; signed = w.signed; width = w.width }

-- a wire that is an input, an output or both is a port
abbrev pub item_ports : Item → List PortFace
item_ports (item.Wire w) = if w.input || w.output then wire_face w ∷ [] else []
item_ports (item.Param p) = []
item_ports (item.Mem m) = []
item_ports (item.Cell c) = []
item_ports (item.Connect l r) = []

abbrev pub doc_interface : DocModule → Interface
doc_interface m = record { name = m.name; ports = flat_map item_ports m.items }

abbrev pub doc_interfaces : List DocModule → List Interface
doc_interfaces ms = map doc_interface ms

-- a kept cell drives the pins that its type has as outputs, and an instance the outputs of its module that are no inouts
abbrev pub carried_drives : List Interface → List ℕ → List ℕ → Bool
carried_drives modules kind pin = drives_by_kind (kind_of kind) (instance_of modules kind) pin

-- ---- what is kept of it

-- the names of the outputs that are no inputs
abbrev pub output_name : Item → List (List ℕ)
output_name (item.Wire w) = if w.output && not w.input then w.name ∷ [] else []
output_name (item.Param p) = []
output_name (item.Mem m) = []
output_name (item.Cell c) = []
output_name (item.Connect l r) = []

abbrev pub output_at : Option (List (List ℕ × ℕ)) → List ℕ → Bool
output_at None pin = false
output_at (Some outputs) pin = is_there (found outputs pin)

abbrev pub instance_drives : List (List (List ℕ × ℕ)) → List ℕ → List ℕ → Option ℕ → Bool
instance_drives outputs kind pin None = drives kind pin
instance_drives outputs kind pin (Some k) = output_at (slice_get outputs k) pin

abbrev pub faces_drive : Faces → List ℕ → List ℕ → Bool
faces_drive f kind pin = if is_carried kind then drives kind pin else instance_drives f.outputs.items kind pin (found f.modules kind)

-- these places are those of a module's outputs
abbrev pub AreOutputs : DocModule → List (List ℕ × ℕ) → Type 0
AreOutputs m places = (name : List ℕ) → found places name ≡ place_of (flat_map output_name m.items) name

abbrev pub AllOutputs : List DocModule → List (List (List ℕ × ℕ)) → Type 0
AllOutputs [] [] = Unit {0}
AllOutputs [] (o ∷ os) = ⊥
AllOutputs (m ∷ ms) [] = ⊥
AllOutputs (m ∷ ms) (o ∷ os) = AreOutputs m o × AllOutputs ms os

-- these are the modules of a file
pub record Shows (ms : List DocModule) (f : Faces) : Type 0 where
  pub places : (name : List ℕ) → found f.modules name ≡ place_of (map module_name ms) name
  pub outputs : AllOutputs ms f.outputs.items

-- The law: they drive what the interfaces of the modules say.
abbrev pub ShownDrive : Type 0
ShownDrive = (ms : List DocModule) (f : Faces) → Shows ms f → (kind pin : List ℕ) → faces_drive f kind pin ≡ carried_drives (doc_interfaces ms) kind pin
