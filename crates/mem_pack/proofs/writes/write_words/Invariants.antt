use Rattle.std.proofs.Common.{◌≡◌, ◌++◌, length}
use Rattle.mem_pack.specs.Lists as lists
use Rattle.mem_pack.proofs.writes.write_words.Given as goal

abbrev pub invariant-loop-rest : goal.invariant-loop-rest
invariant-loop-rest l = l.list.items ++ lists.write_words l.rest ≡ lists.write_words l.fn.writes

abbrev pub decreases-loop-rest : goal.decreases-loop-rest
decreases-loop-rest l = length l.rest
