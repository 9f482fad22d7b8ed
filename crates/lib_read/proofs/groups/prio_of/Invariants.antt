use Rattle.std.proofs.Common.{◌≡◌, ◌++◌, ◌+◌, length}
use Rattle.lib_read.specs.Groups.{prio_from}
use Rattle.lib_read.proofs.groups.prio_of.Given as goal

abbrev pub invariant-loop-rest : goal.invariant-loop-rest
invariant-loop-rest l = record {
  same : l.prio.items ++ prio_from l.group l.rest l.settings ≡ prio_from 0 l.ports l.settings;
  count : l.group + length l.rest ≡ length l.ports;
}

abbrev pub decreases-loop-rest : goal.decreases-loop-rest
decreases-loop-rest l = length l.rest
