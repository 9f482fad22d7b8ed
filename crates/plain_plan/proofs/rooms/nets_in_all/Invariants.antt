use Rattle.std.proofs.Common.{length}
use Rattle.plain_plan.proofs.Roomy.{Summed}
use Rattle.plain_plan.proofs.rooms.nets_in_all.Given as goal

abbrev pub invariant-loop-mems : goal.invariant-loop-mems
invariant-loop-mems l = Summed l.lib l.module l.plans l.nets l.mems l.rest

abbrev pub decreases-loop-mems : goal.decreases-loop-mems
decreases-loop-mems l = length l.mems
