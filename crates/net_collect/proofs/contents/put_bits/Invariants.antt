use Rattle.std.proofs.Common.{◌≡◌, length}
use Rattle.net_collect.specs.Contents as spec
use Rattle.net_collect.proofs.contents.put_bits.Given as goal

abbrev pub invariant-loop-left : goal.invariant-loop-left
invariant-loop-left l = spec.put_bits l.priority l.left l.rest l.place l.table.items ≡ spec.put_bits l.fn.priority l.fn.enables l.fn.bits l.fn.first l.initial.table.items

abbrev pub decreases-loop-left : goal.decreases-loop-left
decreases-loop-left l = length l.left
