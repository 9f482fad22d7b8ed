use Rattle.std.proofs.Common.{◌≡◌}
use Rattle.net_wires.specs.Links.{own}
use Rattle.net_wires.proofs.link.own.Given as goal

abbrev pub invariant-loop-i : goal.invariant-loop-i
invariant-loop-i l = l.table.items ≡ own l.i
