use Rattle.std.proofs.Common.{◌≡◌, length}
use Rattle.net_wires.specs.Parts.{parts_breaches, signal_breaches, steps, start}
use Rattle.net_wires.specs.Pieces.{state_of}
use Rattle.net_wires.proofs.reading.signal.Given as goal

abbrev pub invariant-loop-rest : goal.invariant-loop-rest
invariant-loop-rest l = (parts_breaches l.names (state_of l.reading) l.rest ≡ signal_breaches l.names l.parts) × (steps l.names (state_of l.reading) l.rest ≡ steps l.names start l.parts)

abbrev pub decreases-loop-rest : goal.decreases-loop-rest
decreases-loop-rest l = length l.rest
