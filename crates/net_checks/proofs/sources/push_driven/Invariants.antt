use Rattle.std.proofs.Common.{◌≡◌, ◌++◌, take}
use Rattle.std.specs.List.{flat_map}
use Rattle.net_checks.specs.Driven.{pin_drives}
use Rattle.net_checks.proofs.sources.push_driven.Given as goal

abbrev pub invariant-loop-pin : goal.invariant-loop-pin
invariant-loop-pin l = l.bits.items ≡ l.initial.bits.items ++ flat_map pin_drives (take l.pin-index l.pins)
