use Rattle.std.proofs.Common.{◌++◌, List, ℕ, length}
use Rattle.net_gather.specs.Faces.{AllOutputs}
use Rattle.net_gather.proofs.faces.all_outputs.Given as goal

abbrev pub invariant-loop-rest : goal.invariant-loop-rest
invariant-loop-rest l = (more : List (List (List ℕ × ℕ))) → AllOutputs l.rest more → AllOutputs l.modules (l.outputs.items ++ more)

abbrev pub decreases-loop-rest : goal.decreases-loop-rest
decreases-loop-rest l = length l.rest
