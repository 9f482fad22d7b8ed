use Rattle.std.proofs.Common.{◌≡◌, ◌*◌, map, get_or}
use Rattle.std.specs.List.{range_with_len}
use Rattle.net_wires.specs.declared.link.Link.TheVariants.{Zero}
use Rattle.net_wires.specs.Ways.{root_at}
use Rattle.net_wires.proofs.clocking.roots_at.Given as goal

abbrev pub invariant-loop-place : goal.invariant-loop-place
invariant-loop-place l = l.clocks.items ≡ map (λ p. root_at (get_or l.ends (3 * p) Zero)) (range_with_len 0 l.place)
