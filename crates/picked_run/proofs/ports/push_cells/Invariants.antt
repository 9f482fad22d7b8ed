use Rattle.std.proofs.Common.{◌≡◌, ◌++◌, drop}
use Rattle.std.specs.List.{flat_map}
use Rattle.net_core.specs.Ports.{reading_bits}
use Rattle.picked_run.proofs.ports.push_cells.Given as goal

abbrev pub invariant-loop-cell : goal.invariant-loop-cell
invariant-loop-cell l = l.bits.items ++ flat_map reading_bits (drop l.cell-index l.cells) ≡ l.initial.bits.items ++ flat_map reading_bits l.cells
