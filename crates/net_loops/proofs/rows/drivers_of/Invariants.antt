use Rattle.std.proofs.Common.{◌≡◌, ◌++◌, drop}
use Rattle.net_core.specs.Wiring.{drivers_of}
use Rattle.net_loops.proofs.rows.drivers_of.Given as goal

abbrev pub invariant-loop-net : goal.invariant-loop-net
invariant-loop-net l = l.row.items ++ drivers_of l.drivers (drop l.net-index l.nets) ≡ drivers_of l.drivers l.nets
