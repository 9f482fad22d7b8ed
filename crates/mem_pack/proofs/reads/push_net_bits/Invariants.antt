use Rattle.std.proofs.Common.{◌≡◌, ◌++◌, length}
use Rattle.mem_pack.specs.Lists as lists
use Rattle.mem_pack.proofs.reads.push_net_bits.Given as goal

abbrev pub invariant-loop-rest : goal.invariant-loop-rest
invariant-loop-rest l = l.list.items ++ lists.net_bits l.rest ≡ l.initial.list.items ++ lists.net_bits l.fn.nets

abbrev pub decreases-loop-rest : goal.decreases-loop-rest
decreases-loop-rest l = length l.rest
