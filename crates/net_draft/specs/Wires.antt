-- The wires of a document, with their attributes.
use Rattle.std.specs.Prelude.{ℕ, pos, false, List, [], ◌∷◌, ◌++◌, map, length, codes, if◌then◌else◌}
use Rattle.std.specs.List.{list_any}
use Rattle.lib_core.specs.declared.library.Tri.{Tri}
use Rattle.net_core.specs.declared.mems.Attr.{Attr}
use Rattle.net_core.specs.declared.modules.Wire.{Wire}
use Rattle.net_core.specs.Shape.{is_defined}
use Rattle.rtlil_text.specs.declared.doc.DocAttr.{DocAttr}
use Rattle.rtlil_text.specs.declared.doc.DocWire.{DocWire}
use Rattle.rtlil_text.specs.declared.doc.Item.{Item}
use Rattle.rtlil_text.specs.declared.doc.Item.TheVariants as item
use Rattle.cell_consts.specs.Consts.{bits_attr}
use Rattle.doc_params.specs.Docs.{doc_attr}
use Rattle.net_draft.specs.declared.signals.Face.{Face}
use Rattle.net_draft.specs.declared.starts.Start.{Start}
use Rattle.net_draft.specs.Starts.{is_init, net_starts, wire_starts}

abbrev pub face_of : Wire → Face
face_of w = record { name = w.name; width = length w.bits }

abbrev pub doc_attrs : List Attr → List DocAttr
doc_attrs attrs = map (λ a. doc_attr a) attrs

-- the attribute `\init`, where it says anything
unfoldable pub init_attrs : List Tri → List DocAttr
init_attrs values = if list_any is_defined values then doc_attr (bits_attr (codes "\\init") values) ∷ [] else []

-- every other attribute
unfoldable pub other_attrs : List Attr → List DocAttr
other_attrs [] = []
other_attrs (a ∷ as_) = if is_init a then other_attrs as_ else doc_attr a ∷ other_attrs as_

abbrev pub wire_attrs : List Attr → List Tri → List DocAttr
wire_attrs attrs values = other_attrs attrs ++ init_attrs values

unfoldable pub doc_wire : List Start → Wire → DocWire
doc_wire starts w = record {
  attrs = wire_attrs w.attrs (wire_starts starts w);
  name = w.name;
  width = length w.bits;
  offset = w.offset;
  port = w.port;
  input = w.input;
  output = w.output;
  upto = w.upto;
  signed = w.signed;
}

abbrev pub wire_items : List Start → List Wire → List Item
wire_items starts ws = map (λ w. item.Wire (doc_wire starts w)) ws

-- a wire of nets that is no port
unfoldable pub added_wire : List Start → List ℕ → List ℕ → DocWire
added_wire starts name nets = record {
  attrs = init_attrs (net_starts starts nets);
  name = name;
  width = length nets;
  offset = pos 0;
  port = 0;
  input = false;
  output = false;
  upto = false;
  signed = false;
}

-- left out where it has no nets
abbrev pub added_items : List Start → List ℕ → List ℕ → List Item
added_items starts name [] = []
added_items starts name (n ∷ ns) = item.Wire (added_wire starts name (n ∷ ns)) ∷ []
