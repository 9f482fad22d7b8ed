use Rattle.std.proofs.Common.{◌≡◌, ◌++◌, length}
use Rattle.lib_judge.specs.Sketch.{settings_of}
use Rattle.lib_judge.proofs.sketch.settings_of.Given as goal

abbrev pub invariant-loop-rest : goal.invariant-loop-rest
invariant-loop-rest l = l.settings.items ++ settings_of l.of_ram l.row l.rest ≡ settings_of l.of_ram l.of_ports l.ports

abbrev pub decreases-loop-rest : goal.decreases-loop-rest
decreases-loop-rest l = length l.rest
