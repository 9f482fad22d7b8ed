use Rattle.std.proofs.Common.{◌≡◌, ◌++◌, take}
use Rattle.std.specs.List.{flat_map}
use Rattle.net_checks.specs.Driven.{cell_drives}
use Rattle.net_checks.proofs.drivers.push_cells.Given as goal

abbrev pub invariant-loop-cell : goal.invariant-loop-cell
invariant-loop-cell l = l.bits.items ≡ l.initial.bits.items ++ flat_map cell_drives (take l.cell-index l.cells)
