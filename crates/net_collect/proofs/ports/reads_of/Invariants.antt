use Rattle.std.proofs.Common.{◌≡◌, ◌++◌, length}
use Rattle.net_collect.specs.Ports as spec
use Rattle.net_collect.proofs.ports.reads_of.Given as goal

abbrev pub invariant-loop-rest : goal.invariant-loop-rest
invariant-loop-rest l = l.reads.items ++ spec.reads_of l.frame l.rest ≡ spec.reads_of l.fn.frame l.fn.cells

abbrev pub decreases-loop-rest : goal.decreases-loop-rest
decreases-loop-rest l = length l.rest
