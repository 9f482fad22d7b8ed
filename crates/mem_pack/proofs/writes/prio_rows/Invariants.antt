use Rattle.std.proofs.Common.{◌≡◌, ◌≤◌, ◌++◌, length}
use Rattle.mem_pack.specs.Numbers.{numbers}
use Rattle.mem_pack.specs.Lists as lists
use Rattle.mem_pack.proofs.writes.prio_rows.Given as goal

abbrev pub invariant-loop-rest : goal.invariant-loop-rest
invariant-loop-rest l = (l.list.items ++ lists.prio_rows l.wides l.rest ≡ lists.prio_rows l.fn.wides l.fn.writes) × (numbers (lists.write_wides l.rest) ≤ 64)

abbrev pub decreases-loop-rest : goal.decreases-loop-rest
decreases-loop-rest l = length l.rest
