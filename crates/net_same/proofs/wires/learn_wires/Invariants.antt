use Rattle.std.proofs.Common.{length}
use Rattle.net_same.specs.declared.tables.Tables.{Tables}
use Rattle.net_same.specs.Learning.{WiresTeach}
use Rattle.net_same.proofs.wires.learn_wires.Given as goal

-- what is learned from the rest is learned from the whole
abbrev pub invariant-loop-lefts : goal.invariant-loop-lefts
invariant-loop-lefts l = (u : Tables) → WiresTeach l.lefts l.rights l.tables u → WiresTeach l.olds l.news l.fn.tables u

abbrev pub decreases-loop-lefts : goal.decreases-loop-lefts
decreases-loop-lefts l = length l.lefts
