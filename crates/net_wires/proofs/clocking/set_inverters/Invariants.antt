use Rattle.std.proofs.Common.{◌≡◌, length}
use Rattle.net_wires.specs.Clocks.{inverted_by}
use Rattle.net_wires.proofs.clocking.set_inverters.Given as goal

abbrev pub invariant-loop-rest : goal.invariant-loop-rest
invariant-loop-rest l = inverted_by l.drives.items l.rest ≡ inverted_by l.initial.drives.items l.inverters

abbrev pub decreases-loop-rest : goal.decreases-loop-rest
decreases-loop-rest l = length l.rest
