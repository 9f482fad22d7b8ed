use Rattle.std.proofs.Common.{◌≡◌, ◌≤◌, ◌++◌, length}
use Rattle.mem_pack.specs.Numbers as table
use Rattle.mem_pack.proofs.numbers.continuations.Given as goal

abbrev pub invariant-loop-rest : goal.invariant-loop-rest
invariant-loop-rest l = (l.list.items ++ table.continuations l.rest ≡ table.continuations l.fn.wides) × (table.numbers l.rest ≤ 64)

abbrev pub decreases-loop-rest : goal.decreases-loop-rest
decreases-loop-rest l = length l.rest
