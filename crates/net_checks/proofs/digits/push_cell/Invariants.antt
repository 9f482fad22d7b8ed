use Rattle.std.proofs.Common.{◌≡◌, ◌++◌, take}
use Rattle.std.specs.List.{flat_map}
use Rattle.net_checks.specs.ClockPins.{pin_digits}
use Rattle.net_checks.proofs.digits.push_cell.Given as goal

abbrev pub invariant-loop-pin : goal.invariant-loop-pin
invariant-loop-pin l = l.places.items ≡ l.initial.places.items ++ flat_map (pin_digits l.wires) (take l.pin-index l.pins)
