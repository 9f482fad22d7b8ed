use Rattle.std.proofs.Common.{◌≡◌, drop, length, replicate, false}
use Rattle.net_wires.specs.Doubling.{mark_all}
use Rattle.net_wires.proofs.following.marks.Given as goal

abbrev pub invariant-loop-link : goal.invariant-loop-link
invariant-loop-link l = mark_all l.marks.items (drop l.link-index l.tied) ≡ mark_all (replicate (length l.tied) false) l.tied
