use Rattle.std.proofs.Common.{◌≡◌, length}
use Rattle.net_wires.specs.Clocks.{driven_by}
use Rattle.net_wires.proofs.clocking.set_all.Given as goal

abbrev pub invariant-loop-rest : goal.invariant-loop-rest
invariant-loop-rest l = driven_by l.drive l.drives.items l.rest ≡ driven_by l.drive l.initial.drives.items l.places

abbrev pub decreases-loop-rest : goal.decreases-loop-rest
decreases-loop-rest l = length l.rest
