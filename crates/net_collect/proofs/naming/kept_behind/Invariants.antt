use Rattle.std.proofs.Common.{◌≡◌, ◌++◌}
use Rattle.std.specs.List.{filter}
use Rattle.std.specs.Vec.Iter.{into_iter_items}
use Rattle.net_collect.specs.Collected.{is_read}
use Rattle.net_collect.specs.Naming as spec
use Rattle.net_collect.proofs.naming.kept_behind.Given as goal

abbrev pub invariant-loop-mem : goal.invariant-loop-mem
invariant-loop-mem l = l.kept ++ filter is_read (spec.named_from l.taken (into_iter_items l.mem-iterator)) ≡ l.fn.there ++ filter is_read (spec.named_from l.fn.taken l.fn.mems)
