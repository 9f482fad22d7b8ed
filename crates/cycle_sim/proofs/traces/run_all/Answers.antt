use Rattle.std.proofs.Common.{sym, subst, arith}
use Rattle.cycle_sim.specs.Traces.{ShowsFrom}
use Rattle.cycle_sim.proofs.Running.{follows_more, follows_all, inputs_there, below_like}
use Rattle.cycle_sim.proofs.traces.run_all.Goals as goal

pub run_event-requires-clause-inputs : goal.run_event-requires-clause-inputs
run_event-requires-clause-inputs c =
    inputs_there c.args.events.now c.loop-event.event-index c.event-item.result c.args.sim.now.unit c.loop-event.sim.unit c.loop-event-test.true c.event-item.is c.loop-event.invariant.unit c.requires.inputs

pub run_event-requires-clause-nets : goal.run_event-requires-clause-nets
run_event-requires-clause-nets c = λ n h. below_like c.args.sim.now.unit c.loop-event.sim.unit n c.loop-event.invariant.unit (c.requires.nets n h)

pub run_event-requires-clause-few : goal.run_event-requires-clause-few
run_event-requires-clause-few c =
    let count = c.loop-event.invariant.steps in
    omega (arith, count, c.requires.few, c.loop-event-test.true)

pub loop-event-preserved : goal.loop-event-preserved
loop-event-preserved c =
    follows_more c.args.sim.now c.loop-event.sim c.run_event.new.sim c.args.events.now c.loop-event.event-index c.event-item.result c.args.outputs.now _ c.loop-event.lines.items c.push.new.self.items c.loop-event-test.true c.event-item.is c.requires.outputs c.in_ok-run_event.ensures c.in_ok-push.ensures.items c.loop-event.invariant

pub returns : goal.returns
returns c =
    let first = c.args.sim.now in
    subst (ShowsFrom first.library first.unit first.seed first.steps first.state c.args.events.now) (sym c.from_vec.ensures)
    (follows_all first c.loop-event.sim c.args.events.now c.loop-event.event-index c.loop-event.lines.items c.loop-event-test.false c.loop-event.invariant)
