use Rattle.std.proofs.Common.{length}
use Rattle.ram_step.proofs.gathers.+is_seen_before.Given as goal

abbrev pub decreases-is_seen_before : goal.decreases-is_seen_before
decreases-is_seen_before l = length l.trans.now
