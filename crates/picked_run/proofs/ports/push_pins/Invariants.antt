use Rattle.std.proofs.Common.{◌≡◌, ◌++◌, not, length}
use Rattle.std.specs.List.{filter}
use Rattle.net_core.specs.Ports.{bits_of_pins}
use Rattle.picked_run.proofs.ports.push_pins.Given as goal

abbrev pub invariant-loop-rest : goal.invariant-loop-rest
invariant-loop-rest l = l.bits.items ++ bits_of_pins (filter (λ p. not p.drives) l.rest) ≡ l.initial.bits.items ++ bits_of_pins (filter (λ p. not p.drives) l.pins)

abbrev pub decreases-loop-rest : goal.decreases-loop-rest
decreases-loop-rest l = length l.rest
