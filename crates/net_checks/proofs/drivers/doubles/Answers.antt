use Rattle.net_wires.specs.Drivers.{is_doubly_driven}
use Rattle.net_wires.proofs.Driven.{range_turn}
use Rattle.net_checks.proofs.drivers.doubles.Goals as goal

pub loop-place-preserved : goal.loop-place-preserved
loop-place-preserved c = λ driven t.
    range_turn (is_doubly_driven driven) c.loop-place.place c.loop-place.marks.items c.push.new.self.items c.is_double.result (c.loop-place.invariant driven t) (c.is_double.ensures c.args.count driven t c.loop-place-test.true) c.in_ok-push.ensures.items
