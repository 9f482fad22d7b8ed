use Rattle.std.proofs.Common.{◌≡◌, length}
use Rattle.net_same.proofs.alike.are_alike.Given as goal

abbrev pub invariant-loop-lefts : goal.invariant-loop-lefts
invariant-loop-lefts g l = record {
  sound : l.rights ≡ l.lefts → l.right ≡ l.left;
  complete : l.right ≡ l.left → l.rights ≡ l.lefts;
}

abbrev pub decreases-loop-lefts : goal.decreases-loop-lefts
decreases-loop-lefts g l = length l.lefts
