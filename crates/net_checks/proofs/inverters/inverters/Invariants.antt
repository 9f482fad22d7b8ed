use Rattle.std.proofs.Common.{◌≡◌, take}
use Rattle.std.specs.List.{flat_map}
use Rattle.net_checks.specs.ClockPins.{cell_inverters}
use Rattle.net_checks.proofs.inverters.inverters.Given as goal

abbrev pub invariant-loop-cell : goal.invariant-loop-cell
invariant-loop-cell l = l.found.items ≡ flat_map cell_inverters (take l.cell-index l.cells)
