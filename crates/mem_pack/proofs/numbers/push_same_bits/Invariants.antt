use Rattle.std.proofs.Common.{◌≡◌, ◌++◌, replicate}
use Rattle.mem_pack.proofs.numbers.push_same_bits.Given as goal

abbrev pub invariant-loop-left : goal.invariant-loop-left
invariant-loop-left l = l.list.items ++ replicate l.left l.bit ≡ l.initial.list.items ++ replicate l.fn.times l.fn.bit

abbrev pub decreases-loop-left : goal.decreases-loop-left
decreases-loop-left l = l.left
