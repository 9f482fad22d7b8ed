use Rattle.std.proofs.Common.{◌≡◌, map, take}
use Rattle.net_wires.specs.Ties.{onward}
use Rattle.net_wires.proofs.following.doubled.Given as goal

abbrev pub invariant-loop-link : goal.invariant-loop-link
invariant-loop-link l = l.next.items ≡ map (onward l.table) (take l.link-index l.table)
