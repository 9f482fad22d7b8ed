use Rattle.std.proofs.Common.{◌≡◌, ◌++◌, length}
use Rattle.net_build.specs.Faults.{loop_names}
use Rattle.net_build.proofs.module.loop_names.Given as goal

abbrev pub invariant-loop-rest : goal.invariant-loop-rest
invariant-loop-rest l = l.names.items ++ loop_names l.cells l.owners l.rest ≡ loop_names l.fn.cells l.fn.owners l.fn.cycle

abbrev pub decreases-loop-rest : goal.decreases-loop-rest
decreases-loop-rest l = length l.rest
