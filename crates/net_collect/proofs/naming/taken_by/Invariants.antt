use Rattle.std.proofs.Common.{◌≡◌, [], length}
use Rattle.part_faults.specs.Parts.{names_of}
use Rattle.net_collect.specs.Naming as spec
use Rattle.net_collect.proofs.naming.taken_by.Given as goal

abbrev pub invariant-loop-rest : goal.invariant-loop-rest
invariant-loop-rest l = spec.with_names l.taken (names_of l.rest) ≡ spec.with_names [] (names_of l.fn.mems)

abbrev pub decreases-loop-rest : goal.decreases-loop-rest
decreases-loop-rest l = length l.rest
