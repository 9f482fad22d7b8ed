use Rattle.std.proofs.Common.{◌≡◌, ◌++◌, length}
use Rattle.raw_cells.specs.RamCells.{names_slots}
use Rattle.raw_cells.proofs.ram_cell.push_slots.Given as goal

abbrev pub invariant-loop-names : goal.invariant-loop-names
invariant-loop-names l =
    l.slots.items ++ names_slots l.places l.roots l.pins l.group l.names l.rows ≡ l.initial.slots.items ++ names_slots l.places l.roots l.pins l.group l.group.names l.fn.rows

abbrev pub decreases-loop-names : goal.decreases-loop-names
decreases-loop-names l = length l.names
