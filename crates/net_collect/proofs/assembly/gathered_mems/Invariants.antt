use Rattle.std.proofs.Common.{◌≡◌, ◌++◌, map}
use Rattle.std.specs.Vec.Iter.{into_iter_items}
use Rattle.net_collect.specs.Gathered.{gathered}
use Rattle.net_collect.proofs.assembly.gathered_mems.Given as goal

abbrev pub invariant-loop-bucket : goal.invariant-loop-bucket
invariant-loop-bucket l = l.mems.items ++ map gathered (into_iter_items l.bucket-iterator) ≡ map gathered l.fn.buckets
