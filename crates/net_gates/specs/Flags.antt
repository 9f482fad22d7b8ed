-- A flag that chooses between lists.
use Rattle.std.specs.Prelude.{ℕ, List, [], ◌∷◌, ◌++◌}
use Rattle.lib_core.specs.declared.library.Tri.TheVariants as tri
use Rattle.net_core.specs.declared.bits.Bit.{Bit}
use Rattle.net_core.specs.declared.bits.Bit.TheVariants.{Zero, Net}
use Rattle.net_edit.specs.Edits.{Editing}
use Rattle.net_gates.specs.declared.flags.FlagPins.{FlagPins}
use Rattle.net_gates.specs.declared.registers.RegPins.{RegPins}
use Rattle.net_gates.specs.Adds.{Extends, Mean}
use Rattle.net_gates.specs.Meanings.{either_list}
use Rattle.net_gates.specs.Registers.{Remembers}

-- a register of one bit that starts with 0 and is never reset
abbrev pub flag_pins : FlagPins → RegPins
flag_pins p = record { clock = p.clock; en = p.en; rst = Zero; d = p.set ∷ []; value = tri.Zero ∷ []; init = tri.Zero ∷ [] }

-- A new net remembers the flag, and the outputs are the second list while it is 1, else the first.
pub record AddsFlag (old new : Editing) (flag : FlagPins) (low high ys : List Bit) : Type 0 where
  pub net : ℕ
  pub extends : Extends old new (low ++ high) ys
  pub remembers : Remembers new.netlist (flag_pins flag) (net ∷ [])
  pub means : Mean new.netlist ys (either_list (Net net) low high)
