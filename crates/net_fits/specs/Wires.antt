-- The laws of wires and of memories that are declared.
use Rattle.std.specs.Prelude.{◌≡◌, ℕ, true, List, [], ◌∷◌, ◌&&◌, not, take, drop, map}
use Rattle.rtlil_text.specs.declared.doc.DocModule.{DocModule}
use Rattle.rtlil_text.specs.declared.doc.Item.{Item}
use Rattle.rtlil_text.specs.declared.doc.Item.TheVariants as item
use Rattle.net_core.specs.declared.bits.Bit.{Bit}
use Rattle.net_core.specs.declared.mems.Mem.{Mem}
use Rattle.net_core.specs.declared.modules.Wire.{Wire}
use Rattle.net_core.specs.Valid.{are_nets, AreApart, Each, IsDeclared, WireFits}
use Rattle.net_gather.specs.Sizes.{size_faults}
use Rattle.net_cells.specs.Wires.{declared, wires_from}
use Rattle.net_fits.specs.Written.{IsWritten}

-- each bit of an input wire is a net; the bits of the wires stand first among the places, one wire behind the other
abbrev pub InputsAreNets : List Bit → List Item → Type 0
InputsAreNets places [] = Unit {0}
InputsAreNets places (item.Wire w ∷ is) = ((w.input && not w.output) ≡ true → are_nets (take w.width places) ≡ true) × InputsAreNets (drop w.width places) is
InputsAreNets places (item.Param p ∷ is) = InputsAreNets places is
InputsAreNets places (item.Mem m ∷ is) = InputsAreNets places is
InputsAreNets places (item.Cell c ∷ is) = InputsAreNets places is
InputsAreNets places (item.Connect l r ∷ is) = InputsAreNets places is

-- The law: the wires fit, where the bits of inputs are nets.
abbrev pub WiresFit : Type 0
WiresFit = (m : DocModule) (places : List Bit) → IsWritten m → InputsAreNets places m.items → Each (wires_from places m.items) WireFits

-- The law: no two have one name.
abbrev pub WireNamesApart : Type 0
WireNamesApart = (m : DocModule) (places : List Bit) → IsWritten m → AreApart (map (λ (w : Wire). w.name) (wires_from places m.items))

-- The law: the memories that are declared fit, where their sizes are not wrong.
abbrev pub DeclaredFit : Type 0
DeclaredFit = (m : DocModule) (i bits : ℕ) → IsWritten m → size_faults i bits m.items ≡ [] → Each (declared m.items) IsDeclared

-- The law: no two have one name.
abbrev pub MemNamesApart : Type 0
MemNamesApart = (m : DocModule) → IsWritten m → AreApart (map (λ (x : Mem). x.name) (declared m.items))
