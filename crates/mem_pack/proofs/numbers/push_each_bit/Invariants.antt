use Rattle.std.proofs.Common.{◌≡◌, ◌≤◌, ◌++◌, length}
use Rattle.mem_pack.specs.Numbers as table
use Rattle.mem_pack.proofs.numbers.push_each_bit.Given as goal

abbrev pub invariant-loop-rest : goal.invariant-loop-rest
invariant-loop-rest l = (l.list.items ++ table.each_number l.rest l.left ≡ l.initial.list.items ++ table.each_number l.fn.wides l.fn.bits) × (table.numbers l.rest ≤ 64)

abbrev pub decreases-loop-rest : goal.decreases-loop-rest
decreases-loop-rest l = length l.rest
