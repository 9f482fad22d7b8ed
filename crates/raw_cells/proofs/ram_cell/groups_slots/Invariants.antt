use Rattle.std.proofs.Common.{◌≡◌, ◌++◌, length}
use Rattle.raw_cells.specs.RamCells.{groups_slots}
use Rattle.raw_cells.proofs.ram_cell.groups_slots.Given as goal

abbrev pub invariant-loop-rest : goal.invariant-loop-rest
invariant-loop-rest l = l.slots.items ++ groups_slots l.places l.roots l.pins l.rest l.left ≡ groups_slots l.places l.roots l.pins l.groups l.fn.rows

abbrev pub decreases-loop-rest : goal.decreases-loop-rest
decreases-loop-rest l = length l.rest
