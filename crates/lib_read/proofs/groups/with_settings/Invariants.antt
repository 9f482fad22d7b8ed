use Rattle.std.proofs.Common.{◌≡◌, length}
use Rattle.lib_read.specs.Groups.{with_settings}
use Rattle.lib_read.proofs.groups.with_settings.Given as goal

abbrev pub invariant-loop-rest : goal.invariant-loop-rest
invariant-loop-rest l = with_settings l.group l.rest ≡ with_settings l.fn.group l.settings

abbrev pub decreases-loop-rest : goal.decreases-loop-rest
decreases-loop-rest l = length l.rest
