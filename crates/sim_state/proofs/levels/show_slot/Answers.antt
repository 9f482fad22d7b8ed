use Rattle.std.proofs.Common.{arith}
use Rattle.ram_step.specs.Moments.{valuation}
use Rattle.ram_step.specs.States.{shown_bit}
use Rattle.sim_state.proofs.Filling.{filled_more}
use Rattle.sim_state.proofs.levels.show_slot.Goals as goal

pub loop-place-preserved : goal.loop-place-preserved
loop-place-preserved g c = λ s found.
    filled_more (shown_bit c.args.state.now (valuation c.args.values.now) c.args.picks.now s) c.loop-place.out c.loop-place.place c.output.result (omega arith) (c.output.ensures s found) (c.loop-place.invariant s found)
