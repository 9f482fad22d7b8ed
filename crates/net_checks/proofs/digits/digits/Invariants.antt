use Rattle.std.proofs.Common.{◌≡◌, ◌++◌, take}
use Rattle.std.specs.List.{flat_map}
use Rattle.net_wires.specs.Clocks.{tied_digits}
use Rattle.net_checks.specs.ClockPins.{cell_digits}
use Rattle.net_checks.proofs.digits.digits.Given as goal

abbrev pub invariant-loop-cell : goal.invariant-loop-cell
invariant-loop-cell l = l.places.items ≡ tied_digits l.gathered.pairs ++ flat_map (cell_digits l.gathered.wire_places) (take l.cell-index l.cells)
