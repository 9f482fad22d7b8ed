use Rattle.net_live.proofs.Seen.{FirstSeen}
use Rattle.net_live.proofs.drives.are_below_apart.Given as goal

abbrev pub invariant-loop-net : goal.invariant-loop-net
invariant-loop-net l = FirstSeen l.limit l.nets l.net-index l.seen.items
