use Rattle.std.proofs.Common.{length}
use Rattle.fit_pairs.proofs.pairs.+trans_relation.Given as goal

abbrev pub decreases-trans_relation : goal.decreases-trans_relation
decreases-trans_relation l = length l.trans.now
