use Rattle.std.proofs.Common.{arith}
use Rattle.cycle_sim.proofs.Viewing.{settled_like, stepped_like, shows_inputs, nets_like, steps_like, is_there}
use Rattle.cycle_sim.proofs.traces.run_event.Goals as goal

pub line-requires-clause-settled : goal.line-requires-clause-settled
line-requires-clause-settled c = let w = c.settle.ensures.settled in is_there _ w.0 w.1

pub line-requires-clause-nets : goal.line-requires-clause-nets
line-requires-clause-nets c = λ n h.
    let same = nets_like c.args.sim.now c.settle.new.self c.settle.ensures.same in
    let below = c.requires.nets n h in
    omega (arith, same, below)

pub step-requires-clause-inputs : goal.step-requires-clause-inputs
step-requires-clause-inputs c = shows_inputs c.settle.new.self c.args.event.now c.settle.ensures.settled

pub step-requires-clause-few : goal.step-requires-clause-few
step-requires-clause-few c =
    let same = steps_like c.args.sim.now c.settle.new.self c.settle.ensures.same in
    omega (arith, same, c.requires.few)

pub returns : goal.returns
returns c =
    let w = c.settle.ensures.settled in
    let same = c.settle.ensures.same in (
      w.0,
      settled_like c.args.sim.now c.settle.new.self c.args.event.now w.0 same w.2,
      c.in_ok-line.ensures w.0 w.1,
      stepped_like c.args.sim.now c.settle.new.self _ c.args.event.now w.0 same (c.step.ensures w.0 w.1),
    )
