-- Whether the slots of RAM cells read at once exactly where their kinds do.
use Rattle.std.specs.Prelude.{Bool, true, List, [], ◌∷◌, ◌&&◌, length, Option, Some, None, take, drop}
use Rattle.std.specs.List.{list_all}
use Rattle.lib_core.specs.declared.library.Group.{Group}
use Rattle.lib_core.specs.declared.library.Variant.{Variant}
use Rattle.lib_core.specs.declared.library.Library.{Library}
use Rattle.lib_core.specs.Rams.{reads_now}
use Rattle.net_core.specs.declared.rams.SlotUse.{SlotUse}
use Rattle.net_core.specs.declared.rams.RamCell.{RamCell}
use Rattle.net_core.specs.Values.{same_bool}
use Rattle.net_core.specs.Runs.{variant_of}

-- the slot reads at once exactly where its group does
abbrev pub slot_agrees : Group → SlotUse → Bool
slot_agrees g s = same_bool s.reads_now (reads_now g.kind)

-- each group has as many of the slots as it has names, as far as there are slots
abbrev pub slots_agree : List Group → List SlotUse → Bool
slots_agree [] slots = true
slots_agree (g ∷ gs) slots = list_all (slot_agrees g) (take (length g.names) slots) && slots_agree gs (drop (length g.names) slots)

-- a cell whose variant the library lacks says nothing
abbrev pub agrees_with : RamCell → Option Variant → Bool
agrees_with c None = true
agrees_with c (Some x) = slots_agree x.groups c.slots

abbrev pub cell_agrees : Library → RamCell → Bool
cell_agrees lib c = agrees_with c (variant_of lib c)
