use Rattle.std.proofs.Common.{map, length}
use Rattle.std.specs.List.{flat_map}
use Rattle.net_same.specs.declared.tables.Tables.{Tables}
use Rattle.net_same.specs.Learning.{Teaches}
use Rattle.net_same.proofs.nets.learn_all.Given as goal

-- what is learned from the rest is learned from the whole
abbrev pub invariant-loop-lefts : goal.invariant-loop-lefts
invariant-loop-lefts g l =
    (u : Tables)
    → Teaches (λ f xs. map (g.T.Wired.renamed f) xs) (λ xs. flat_map g.T.Wired.nets xs) l.lefts l.rights l.tables u
    → Teaches (λ f xs. map (g.T.Wired.renamed f) xs) (λ xs. flat_map g.T.Wired.nets xs) l.olds l.news l.fn.tables u

abbrev pub decreases-loop-lefts : goal.decreases-loop-lefts
decreases-loop-lefts g l = length l.lefts
