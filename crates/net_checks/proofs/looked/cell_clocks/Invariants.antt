use Rattle.std.proofs.Common.{◌≡◌, take}
use Rattle.std.specs.List.{flat_map}
use Rattle.net_checks.specs.ClockPins.{pin_clocks}
use Rattle.net_checks.proofs.looked.cell_clocks.Given as goal

abbrev pub invariant-loop-pin : goal.invariant-loop-pin
invariant-loop-pin l = l.found.items ≡ flat_map (pin_clocks l.cell.shape) (take l.pin-index l.pins)
