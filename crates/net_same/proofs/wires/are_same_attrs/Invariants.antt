use Rattle.std.proofs.Common.{◌≡◌, length}
use Rattle.net_same.specs.Same.{without_starts, BeginsPlain}
use Rattle.net_same.proofs.wires.are_same_attrs.Given as goal

abbrev pub invariant-loop-lefts : goal.invariant-loop-lefts
invariant-loop-lefts l = record {
  left : BeginsPlain l.lefts;
  right : BeginsPlain l.rights;
  sound : without_starts l.rights ≡ without_starts l.lefts → without_starts l.news ≡ without_starts l.olds;
  complete : without_starts l.news ≡ without_starts l.olds → without_starts l.rights ≡ without_starts l.lefts;
}

abbrev pub decreases-loop-lefts : goal.decreases-loop-lefts
decreases-loop-lefts l = length l.lefts
