use Rattle.std.proofs.Common.{length}
use Rattle.plain_plan.proofs.Roomy.{OverFrom}
use Rattle.plain_plan.proofs.rooms.room_fault.Given as goal

abbrev pub invariant-loop-modules : goal.invariant-loop-modules
invariant-loop-modules l = OverFrom l.lib l.design l.plans l.modules l.rest

abbrev pub decreases-loop-modules : goal.decreases-loop-modules
decreases-loop-modules l = length l.modules
