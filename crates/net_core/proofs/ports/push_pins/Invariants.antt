use Rattle.std.proofs.Common.{◌≡◌, ◌++◌, drop}
use Rattle.std.specs.List.{filter}
use Rattle.net_core.specs.Ports.{bits_of_pins, nets_of}
use Rattle.net_core.proofs.ports.push_pins.Given as goal

abbrev pub invariant-loop-pin : goal.invariant-loop-pin
invariant-loop-pin l = l.nets.items ++ nets_of (bits_of_pins (filter (λ p. p.drives) (drop l.pin-index l.pins))) ≡ l.initial.nets.items ++ nets_of (bits_of_pins (filter (λ p. p.drives) l.pins))
