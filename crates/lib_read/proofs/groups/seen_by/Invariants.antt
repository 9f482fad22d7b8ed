use Rattle.std.proofs.Common.{◌≡◌, length}
use Rattle.lib_read.specs.Groups.{seen_by}
use Rattle.lib_read.proofs.groups.seen_by.Given as goal

abbrev pub invariant-loop-rest : goal.invariant-loop-rest
invariant-loop-rest l = seen_by l.port l.rest ≡ seen_by l.port l.settings

abbrev pub decreases-loop-rest : goal.decreases-loop-rest
decreases-loop-rest l = length l.rest
