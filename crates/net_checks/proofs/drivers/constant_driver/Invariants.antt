use Rattle.std.proofs.Common.{◌≡◌, length}
use Rattle.net_checks.specs.Driven.{constant_driver}
use Rattle.net_checks.proofs.drivers.constant_driver.Given as goal

abbrev pub invariant-loop-rest : goal.invariant-loop-rest
invariant-loop-rest l = constant_driver l.rest ≡ constant_driver l.cells

abbrev pub decreases-loop-rest : goal.decreases-loop-rest
decreases-loop-rest l = length l.rest
