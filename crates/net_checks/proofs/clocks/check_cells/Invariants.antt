use Rattle.std.proofs.Common.{◌≡◌, length}
use Rattle.net_checks.specs.ClockPins.{clock_faults}
use Rattle.net_checks.proofs.clocks.check_cells.Given as goal

abbrev pub invariant-loop-rest : goal.invariant-loop-rest
invariant-loop-rest l = clock_faults l.clocks l.rest ≡ clock_faults l.clocks l.cells

abbrev pub decreases-loop-rest : goal.decreases-loop-rest
decreases-loop-rest l = length l.rest
