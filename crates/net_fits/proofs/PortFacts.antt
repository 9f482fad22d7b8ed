-- The module has the ports that the document says.
use Rattle.std.proofs.Common.{◌≡◌, ℕ, ◌≤◌, Bool, true, false, cond, List, [], ◌∷◌, ◌++◌, map, take, drop, length, refl, ap, ◌∙◌, arith}
use Rattle.std.specs.Prelude.{filter, if◌then◌else◌, ◌||◌}
use Rattle.std.specs.List.{flat_map}
use Rattle.std.proofs.lemmas.List.{length-drop, length-take}
use Rattle.rtlil_text.specs.declared.doc.DocWire.{DocWire}
use Rattle.rtlil_text.specs.declared.doc.Item.{Item}
use Rattle.rtlil_text.specs.declared.doc.Item.TheVariants as item
use Rattle.net_core.specs.declared.bits.Bit.{Bit}
use Rattle.net_core.specs.declared.modules.Wire.{Wire}
use Rattle.net_core.specs.Ports.{face_of, is_port, PortFace}
use Rattle.net_wires.specs.Spans.{wire_bits}
use Rattle.net_gather.specs.Faces.{item_ports, wire_face}
use Rattle.net_cells.specs.Wires.{wire_of, wires_from}

face_same : (w : DocWire) (bits : List Bit) → length bits ≡ w.width → face_of (wire_of bits w) ≡ wire_face w
unfolding wire_of
face_same w bits e = ap (λ (k : ℕ). record { name = w.name; port = w.port; input = w.input; output = w.output; offset = w.offset; upto = w.upto; signed = w.signed; width = k }) e

face_case : (t : Bool) (w : DocWire) (bits : List Bit) (ws : List Wire) (ps : List PortFace) → length bits ≡ w.width → map face_of ws ≡ ps
    → map face_of (cond t (wire_of bits w ∷ ws) ws) ≡ (if t then wire_face w ∷ [] else []) ++ ps
face_case true w bits ws ps e h = ap (λ f. f ∷ map face_of ws) (face_same w bits e) ∙ ap (λ fs. wire_face w ∷ fs) h
face_case false w bits ws ps e h = h

pub ports_alike : (left : List Bit) (is : List Item) → wire_bits is ≤ length left → map face_of (filter is_port (wires_from left is)) ≡ flat_map item_ports is
unfolding wires_from wire_of
ports_alike left [] h = refl
ports_alike left (item.Wire w ∷ is) h =
    let wide : length (take w.width left) ≡ w.width = omega (arith, length-take w.width left, h) in
    let rest : wire_bits is ≤ length (drop w.width left) = omega (arith, length-drop w.width left, h) in
    face_case (w.input || w.output) w (take w.width left) (filter is_port (wires_from (drop w.width left) is)) (flat_map item_ports is) wide (ports_alike (drop w.width left) is rest)
ports_alike left (item.Param p ∷ is) h = ports_alike left is h
ports_alike left (item.Mem m ∷ is) h = ports_alike left is h
ports_alike left (item.Cell c ∷ is) h = ports_alike left is h
ports_alike left (item.Connect l r ∷ is) h = ports_alike left is h
