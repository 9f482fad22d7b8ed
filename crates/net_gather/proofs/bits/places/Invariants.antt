use Rattle.std.proofs.Common.{◌≡◌, ◌+◌, ◌++◌, replicate}
use Rattle.net_wires.specs.declared.source.Source.TheVariants.{Loose}
use Rattle.net_wires.specs.Settled.{settled}
use Rattle.net_gather.proofs.bits.places.Given as goal

abbrev pub invariant-loop-left : goal.invariant-loop-left
invariant-loop-left l = (l.bits.items ++ settled l.next (replicate l.left Loose) ≡ settled l.from (replicate l.count Loose)) × (l.next + l.left ≡ l.from + l.count)

abbrev pub decreases-loop-left : goal.decreases-loop-left
decreases-loop-left l = l.left
