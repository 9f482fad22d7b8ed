use Rattle.std.proofs.Common.{◌≡◌, ◌++◌, reverse, length}
use Rattle.net_wires.specs.Signals.{text_bits}
use Rattle.net_wires.proofs.constant.push_text.Given as goal

abbrev pub invariant-loop-rest : goal.invariant-loop-rest
invariant-loop-rest l = l.bits.items ++ reverse (text_bits l.rest) ≡ l.initial.bits.items ++ reverse (text_bits l.text)

abbrev pub decreases-loop-rest : goal.decreases-loop-rest
decreases-loop-rest l = length l.rest
