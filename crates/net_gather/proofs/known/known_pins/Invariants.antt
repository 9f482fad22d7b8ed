use Rattle.std.proofs.Common.{◌≡◌, take}
use Rattle.net_gather.specs.OpenPins.{known_pins}
use Rattle.net_gather.proofs.known.known_pins.Given as goal

abbrev pub invariant-loop-pin : goal.invariant-loop-pin
invariant-loop-pin l = l.known.items ≡ known_pins l.tied (take l.pin-index l.pins)
