use Rattle.std.proofs.Common.{◌≡◌, ◌+◌, ◌++◌, length}
use Rattle.net_gather.specs.Gather.{connect_faults}
use Rattle.net_gather.specs.Ties.{first_of, ties_of}
use Rattle.net_gather.proofs.Tying.{first_or}
use Rattle.net_gather.proofs.connects.tie_items.Given as goal

abbrev pub invariant-loop-rest : goal.invariant-loop-rest
invariant-loop-rest l =
    (first_or l.fault (connect_faults l.names l.place l.rest) ≡ first_of (connect_faults l.names 0 l.items))
    × (l.pairs.items ++ ties_of l.names l.rest ≡ ties_of l.names l.items) × (l.place + length l.rest ≡ length l.items)

abbrev pub decreases-loop-rest : goal.decreases-loop-rest
decreases-loop-rest l = length l.rest
