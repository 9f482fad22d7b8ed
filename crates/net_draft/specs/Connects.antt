-- The connects of a document: one for each run of bits of a wire that are not the homes of their nets.
use Rattle.std.specs.Prelude.{ℕ, ◌+◌, ◌-◌, Bool, false, ◌&&◌, List, [], ◌∷◌, ◌++◌, slice_get, Option, Some, None, nat_eq, if◌then◌else◌}
use Rattle.rtlil_text.specs.declared.doc.Item.{Item}
use Rattle.rtlil_text.specs.declared.doc.Item.TheVariants as item
use Rattle.net_core.specs.declared.bits.Bit.{Bit}
use Rattle.net_core.specs.declared.bits.Bit.TheVariants.{Zero, One, Net}
use Rattle.net_core.specs.declared.modules.Wire.{Wire}
use Rattle.net_draft.specs.declared.homes.Home.{Home}
use Rattle.net_draft.specs.declared.signals.Sheet.{Sheet}
use Rattle.net_draft.specs.Signals.{signal, wire_parts}

abbrev pub is_same : Home → Home → Bool
is_same h g = nat_eq h.wire g.wire && nat_eq h.bit g.bit

abbrev pub found_there : Option (Option Home) → Home → Bool
found_there None h = false
found_there (Some None) h = false
found_there (Some (Some found)) h = is_same found h

-- the bit is a net that is at home there
abbrev pub is_at_home : List (Option Home) → Bit → Home → Bool
is_at_home homes Zero h = false
is_at_home homes One h = false
is_at_home homes (Net n) h = found_there (slice_get homes n) h

-- the connect of a run of bits, which begins at a bit of a wire and ends below another
abbrev pub connect : Sheet → Home → ℕ → List Bit → List Item
connect sheet home to [] = []
connect sheet home to (b ∷ bs) = item.Connect (wire_parts (slice_get sheet.faces home.wire) (to - 1) home.bit) (signal sheet (b ∷ bs)) ∷ []

-- run: the bits from a bit of the wire on up to a place, none of which is at home
unfoldable pub connects_from : Sheet → ℕ → ℕ → ℕ → List Bit → List Bit → List Item
connects_from sheet wire from place run [] = connect sheet (record { wire = wire; bit = from }) place run
connects_from sheet wire from place run (b ∷ bs) =
    if is_at_home sheet.homes b (record { wire = wire; bit = place })
    then connect sheet (record { wire = wire; bit = from }) place run ++ connects_from sheet wire (place + 1) (place + 1) [] bs
    else connects_from sheet wire from (place + 1) (run ++ b ∷ []) bs

-- no connect drives an input
abbrev pub wire_connects : Sheet → ℕ → Wire → List Item
wire_connects sheet place w = if w.input then [] else connects_from sheet place 0 0 [] w.bits

-- those of wires, from a place on
unfoldable pub connects : Sheet → ℕ → List Wire → List Item
connects sheet place [] = []
connects sheet place (w ∷ ws) = wire_connects sheet place w ++ connects sheet (place + 1) ws
