use Rattle.std.proofs.Common.{◌≡◌, ◌++◌, ◌≤◌, ◌+◌, length}
use Rattle.lib_judge.specs.Sketch.{settings_from}
use Rattle.lib_judge.proofs.sketch.settings_in.Given as goal

abbrev pub invariant-loop-rest : goal.invariant-loop-rest
invariant-loop-rest l = record { same : l.settings.items ++ settings_from l.of_ram l.of_port l.off l.rest ≡ settings_from l.of_ram l.of_port 0 l.body; off : l.off + length l.rest ≤ length l.body }

abbrev pub decreases-loop-rest : goal.decreases-loop-rest
decreases-loop-rest l = length l.rest
