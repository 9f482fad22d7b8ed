use Rattle.std.proofs.Common.{◌≡◌, ◌++◌}
use Rattle.std.specs.Vec.Iter.{into_iter_items}
use Rattle.net_collect.proofs.assembly.joined.Given as goal

abbrev pub invariant-loop-mem : goal.invariant-loop-mem
invariant-loop-mem l = l.all ++ into_iter_items l.mem-iterator ≡ l.fn.mems ++ l.fn.more
