use Rattle.std.proofs.Common.{◌≡◌, ◌++◌, length}
use Rattle.mem_pack.specs.Lists as lists
use Rattle.mem_pack.proofs.writes.write_en.Given as goal

abbrev pub invariant-loop-rest : goal.invariant-loop-rest
invariant-loop-rest l = l.list.items ++ lists.write_en l.rest ≡ lists.write_en l.fn.writes

abbrev pub decreases-loop-rest : goal.decreases-loop-rest
decreases-loop-rest l = length l.rest
