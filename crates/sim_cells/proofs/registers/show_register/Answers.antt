use Rattle.std.proofs.Common.{arith}
use Rattle.ram_step.specs.Moments.{valuation}
use Rattle.sim_cells.specs.Registers.{reg_shown}
use Rattle.sim_cells.proofs.Filling.{filled_more}
use Rattle.sim_cells.proofs.registers.show_register.Goals as goal

pub loop-place-preserved : goal.loop-place-preserved
loop-place-preserved c =
    filled_more (reg_shown c.args.reg.now (valuation c.args.values.now) c.args.key.now c.args.kept.now) c.loop-place.out c.loop-place.place c.shown_bit.result (omega arith) c.shown_bit.ensures c.loop-place.invariant
