use Rattle.std.proofs.Common.{◌≡◌, ◌+◌, ◌++◌, length}
use Rattle.net_collect.specs.Ports as spec
use Rattle.net_collect.proofs.ports.writes_of.Given as goal

abbrev pub invariant-loop-rest : goal.invariant-loop-rest
invariant-loop-rest l =
    (l.writes.items ++ spec.writes_from l.frame l.place l.rest ≡ spec.writes_from l.fn.frame 0 l.fn.cells) × (l.place + length l.rest ≡ length l.fn.cells)

abbrev pub decreases-loop-rest : goal.decreases-loop-rest
decreases-loop-rest l = length l.rest
