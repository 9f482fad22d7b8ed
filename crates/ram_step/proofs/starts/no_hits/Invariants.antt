use Rattle.std.proofs.Common.{◌≡◌, length}
use Rattle.ram_step.proofs.starts.no_hits.Given as goal

abbrev pub invariant-loop : goal.invariant-loop
invariant-loop g l = length l.list.items ≡ l.counter
