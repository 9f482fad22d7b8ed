use Rattle.std.proofs.Common.{◌≡◌, ◌||◌, map}
use Rattle.std.specs.List.{range_with_len}
use Rattle.net_checks.specs.Joined.{end_at, is_end_marked}
use Rattle.net_checks.specs.Marks.{is_marked}
use Rattle.net_checks.proofs.joined.joined.Given as goal

abbrev pub invariant-loop-place : goal.invariant-loop-place
invariant-loop-place l = l.found.items ≡ map (λ p. is_marked l.marks p || is_end_marked l.reached.items (end_at l.ends p)) (range_with_len 0 l.place)
