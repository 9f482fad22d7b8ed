use Rattle.std.proofs.Common.{◌≡◌, ◌++◌, length}
use Rattle.lib_read.specs.Groups.{groups_of}
use Rattle.lib_read.proofs.groups.groups_of.Given as goal

abbrev pub invariant-loop-rest : goal.invariant-loop-rest
invariant-loop-rest l = l.groups.items ++ groups_of l.ports l.widths l.rest l.choices l.behind ≡ groups_of l.ports l.widths l.ports l.row l.settings

abbrev pub decreases-loop-rest : goal.decreases-loop-rest
decreases-loop-rest l = length l.rest
