use Rattle.std.proofs.Common.{◌≡◌, ◌++◌, length}
use Rattle.raw_cells.specs.Rows.{names_pins}
use Rattle.raw_cells.proofs.ram.push_names.Given as goal

abbrev pub invariant-loop-names : goal.invariant-loop-names
invariant-loop-names l = l.pins.items ++ names_pins l.variant l.group l.names l.slots ≡ l.initial.pins.items ++ names_pins l.variant l.group l.group.names l.fn.slots

abbrev pub decreases-loop-names : goal.decreases-loop-names
decreases-loop-names l = length l.names
