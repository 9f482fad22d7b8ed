use Rattle.std.proofs.Common.{length}
use Rattle.ram_step.proofs.gathers.+is_seen_behind.Given as goal

abbrev pub decreases-is_seen_behind : goal.decreases-is_seen_behind
decreases-is_seen_behind l = length l.trans.now
