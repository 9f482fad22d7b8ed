use Rattle.std.proofs.Common.{◌≡◌, ◌++◌, drop}
use Rattle.std.specs.List.{flat_map}
use Rattle.net_core.specs.Ports.{driving_bits, nets_of}
use Rattle.net_core.proofs.ports.push_cells.Given as goal

abbrev pub invariant-loop-cell : goal.invariant-loop-cell
invariant-loop-cell l = l.nets.items ++ nets_of (flat_map driving_bits (drop l.cell-index l.cells)) ≡ l.initial.nets.items ++ nets_of (flat_map driving_bits l.cells)
