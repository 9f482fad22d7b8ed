use Rattle.std.proofs.Common.{◌≡◌}
use Rattle.net_wires.specs.Doubling.{power}
use Rattle.net_wires.proofs.following.tied.Given as goal

abbrev pub invariant-loop-round : goal.invariant-loop-round
invariant-loop-round l = l.now.items ≡ power l.fn.table.items l.round
