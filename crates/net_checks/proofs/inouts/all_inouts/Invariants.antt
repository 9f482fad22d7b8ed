use Rattle.std.proofs.Common.{◌++◌, List, ℕ, length}
use Rattle.net_checks.specs.Inouts.{AllInouts}
use Rattle.net_checks.proofs.inouts.all_inouts.Given as goal

abbrev pub invariant-loop-rest : goal.invariant-loop-rest
invariant-loop-rest l = (more : List (List (List ℕ × ℕ))) → AllInouts l.rest more → AllInouts l.modules (l.ports.items ++ more)

abbrev pub decreases-loop-rest : goal.decreases-loop-rest
decreases-loop-rest l = length l.rest
