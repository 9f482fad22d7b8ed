use Rattle.std.proofs.Common.{◌≡◌, ◌++◌, drop}
use Rattle.net_core.specs.Wiring.{rows, drivers_of}
use Rattle.net_core.proofs.order.drivers_of.Given as goal

abbrev pub invariant-loop-net : goal.invariant-loop-net
invariant-loop-net l = l.row.items ++ drivers_of (rows l.table) (drop l.net-index l.nets) ≡ drivers_of (rows l.table) l.nets
