use Rattle.std.proofs.Common.{◌≡◌, ◌++◌, length}
use Rattle.net_build.specs.Builds.{names_of_rams}
use Rattle.net_build.proofs.building.ram_names.Given as goal

abbrev pub invariant-loop-rest : goal.invariant-loop-rest
invariant-loop-rest l = l.names.items ++ names_of_rams l.rest ≡ names_of_rams l.fn.rams

abbrev pub decreases-loop-rest : goal.decreases-loop-rest
decreases-loop-rest l = length l.rest
