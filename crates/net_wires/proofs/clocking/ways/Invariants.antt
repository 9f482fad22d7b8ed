use Rattle.std.proofs.Common.{◌≡◌, map}
use Rattle.std.specs.List.{range_with_len}
use Rattle.net_wires.specs.Ways.{hop}
use Rattle.net_wires.proofs.clocking.ways.Given as goal

abbrev pub invariant-loop-node : goal.invariant-loop-node
invariant-loop-node l = l.table.items ≡ map (hop l.links l.drives) (range_with_len 0 l.node)
