-- The table of start values, filled wire by wire. That it is the one of the definition is proved.
use Rattle.std.specs.Prelude.{List, [], ◌∷◌, length, get_or, slice_set}
use Rattle.lib_core.specs.declared.library.Tri.{Tri}
use Rattle.lib_core.specs.declared.library.Tri.TheVariants.{Any}
use Rattle.net_core.specs.declared.bits.Bit.{Bit}
use Rattle.net_core.specs.declared.bits.Bit.TheVariants.{Zero, One, Net}
use Rattle.net_core.specs.declared.modules.Wire.{Wire}
use Rattle.net_cells.specs.Wires.{inits_of, or_else}

abbrev pub put_start : List Tri → Bit → Tri → List Tri
put_start table Zero t = table
put_start table One t = table
put_start table (Net n) t = slice_set table n (or_else (get_or table n Any) t)

unfoldable pub put_starts : List Tri → List Bit → List Tri → List Tri
put_starts table [] ts = table
put_starts table (b ∷ bs) [] = table
put_starts table (b ∷ bs) (t ∷ ts) = put_starts (put_start table b t) bs ts

abbrev pub put_wire : List Tri → Wire → List Tri
put_wire table w = put_starts table w.bits (inits_of w.attrs (length w.bits))

unfoldable pub put_wires : List Tri → List Wire → List Tri
put_wires table [] = table
put_wires table (w ∷ ws) = put_wires (put_wire table w) ws
