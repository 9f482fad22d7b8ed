use Rattle.std.proofs.Common.{◌≡◌, ◌≤◌, ◌++◌, length}
use Rattle.mem_pack.specs.Numbers.{numbers}
use Rattle.mem_pack.specs.Lists as lists
use Rattle.mem_pack.proofs.reads.read_trans.Given as goal

abbrev pub invariant-loop-rest : goal.invariant-loop-rest
invariant-loop-rest l = (l.list.items ++ lists.read_trans l.writes l.rest ≡ lists.read_trans l.fn.writes l.fn.reads) × (numbers (lists.read_wides l.rest) ≤ 64)

abbrev pub decreases-loop-rest : goal.decreases-loop-rest
decreases-loop-rest l = length l.rest
