use Rattle.std.proofs.Common.{arith}
use Rattle.lib_core.specs.Picks.{picked}
use Rattle.sim_settle.proofs.Writing.{one_more}
use Rattle.sim_settle.proofs.combs.pick_bits.Goals as goal

pub loop-place-preserved : goal.loop-place-preserved
loop-place-preserved c =
    one_more (picked c.args.key.now.seed c.args.key.now.event c.args.key.now.cell) c.loop-place.picks c.loop-place.place c.pick.result (omega arith) c.pick.ensures c.loop-place.invariant
