use Rattle.std.proofs.Common.{◌≡◌, ◌++◌, length}
use Rattle.raw_cells.specs.Rows.{groups_pins}
use Rattle.raw_cells.proofs.ram.groups_pins.Given as goal

abbrev pub invariant-loop-rest : goal.invariant-loop-rest
invariant-loop-rest l = l.pins.items ++ groups_pins l.variant l.rest l.left ≡ groups_pins l.variant l.variant.groups l.slots

abbrev pub decreases-loop-rest : goal.decreases-loop-rest
decreases-loop-rest l = length l.rest
