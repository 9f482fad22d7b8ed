use Rattle.std.proofs.Common.{◌≡◌, ◌++◌, ◌+◌, length}
use Rattle.lib_read.specs.Groups.{levels_from}
use Rattle.lib_read.proofs.groups.levels_of.Given as goal

abbrev pub invariant-loop-rest : goal.invariant-loop-rest
invariant-loop-rest l = record {
  same : l.levels.items ++ levels_from l.level l.rest l.settings ≡ levels_from 0 l.widths l.settings;
  count : l.level + length l.rest ≡ length l.widths;
}

abbrev pub decreases-loop-rest : goal.decreases-loop-rest
decreases-loop-rest l = length l.rest
