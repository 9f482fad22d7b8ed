use Rattle.std.proofs.Common.{◌≡◌}
use Rattle.net_collect.specs.Contents as spec
use Rattle.net_collect.proofs.contents.enables.Given as goal

abbrev pub invariant-loop : goal.invariant-loop
invariant-loop l = l.list.items ≡ spec.enables l.counter l.enable
