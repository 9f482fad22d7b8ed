use Rattle.std.proofs.Common.{◌≡◌, ◌+◌, ◌++◌, length}
use Rattle.net_checks.specs.ClockPins.{ports_clocks}
use Rattle.net_checks.proofs.looked.push_ports.Given as goal

abbrev pub invariant-loop-rest : goal.invariant-loop-rest
invariant-loop-rest l = (l.found.items ++ ports_clocks l.continues l.clocked l.place l.rest ≡ l.initial.found.items ++ ports_clocks l.continues l.clocked 0 l.bits) × (l.place + length l.rest ≡ length l.bits)

abbrev pub decreases-loop-rest : goal.decreases-loop-rest
decreases-loop-rest l = length l.rest
