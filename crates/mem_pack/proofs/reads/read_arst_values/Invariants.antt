use Rattle.std.proofs.Common.{◌≡◌, ◌++◌, length}
use Rattle.mem_pack.specs.Lists as lists
use Rattle.mem_pack.proofs.reads.read_arst_values.Given as goal

abbrev pub invariant-loop-rest : goal.invariant-loop-rest
invariant-loop-rest l = l.list.items ++ lists.read_arst_values l.rest ≡ lists.read_arst_values l.fn.reads

abbrev pub decreases-loop-rest : goal.decreases-loop-rest
decreases-loop-rest l = length l.rest
