use Rattle.std.proofs.Common.{◌≡◌, ◌++◌, take}
use Rattle.std.specs.List.{flat_map}
use Rattle.net_checks.specs.Inouts.{pin_inouts}
use Rattle.net_checks.proofs.inout_pins.push_pins.Given as goal

abbrev pub invariant-loop-pin : goal.invariant-loop-pin
invariant-loop-pin l = l.bits.items ≡ l.initial.bits.items ++ flat_map (pin_inouts l.inouts l.kind) (take l.pin-index l.pins)
