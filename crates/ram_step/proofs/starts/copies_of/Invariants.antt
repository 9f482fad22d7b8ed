use Rattle.std.proofs.Common.{◌≡◌}
use Rattle.std.proofs.Math.ListN.{replicate}
use Rattle.ram_step.proofs.starts.copies_of.Given as goal

abbrev pub invariant-loop : goal.invariant-loop
invariant-loop l = l.list.items ≡ replicate l.counter l.tri
