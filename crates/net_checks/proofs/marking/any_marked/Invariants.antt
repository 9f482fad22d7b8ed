use Rattle.std.proofs.Common.{◌≡◌, ◌+◌}
use Rattle.std.specs.List.{list_any, range_with_len}
use Rattle.net_checks.specs.Marks.{is_marked}
use Rattle.net_checks.proofs.marking.any_marked.Given as goal

abbrev pub invariant-loop-left : goal.invariant-loop-left
invariant-loop-left l = (list_any (is_marked l.marks) (range_with_len l.place l.left) ≡ list_any (is_marked l.marks) (range_with_len l.from l.count)) × (l.place + l.left ≡ l.from + l.count)

abbrev pub decreases-loop-left : goal.decreases-loop-left
decreases-loop-left l = l.left
