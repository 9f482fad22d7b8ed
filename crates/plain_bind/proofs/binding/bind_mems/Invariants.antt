use Rattle.std.proofs.Common.{length}
use Rattle.plain_bind.proofs.Bounding.{Making}
use Rattle.plain_bind.proofs.binding.bind_mems.Given as goal

abbrev pub invariant-loop-mems : goal.invariant-loop-mems
invariant-loop-mems l = Making l.lib l.front l.fn.made l.fn.mems l.fn.plans l.made l.mems l.plans

abbrev pub decreases-loop-mems : goal.decreases-loop-mems
decreases-loop-mems l = length l.mems
