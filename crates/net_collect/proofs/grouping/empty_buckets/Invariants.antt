use Rattle.std.proofs.Common.{◌≡◌, ◌++◌}
use Rattle.std.specs.Vec.Iter.{into_iter_items}
use Rattle.net_collect.specs.Grouping as spec
use Rattle.net_collect.proofs.grouping.empty_buckets.Given as goal

abbrev pub invariant-loop-mem : goal.invariant-loop-mem
invariant-loop-mem l = l.buckets.items ++ spec.empty_buckets (into_iter_items l.mem-iterator) ≡ spec.empty_buckets l.fn.declared
