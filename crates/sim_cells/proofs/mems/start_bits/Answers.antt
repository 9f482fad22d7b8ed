use Rattle.lib_core.specs.Rams.{tri_at}
use Rattle.sim_cells.specs.Memories.{picked_bit}
use Rattle.sim_cells.proofs.Filling.{pushed_more}
use Rattle.sim_cells.proofs.mems.start_bits.Goals as goal

pub loop-place-preserved : goal.loop-place-preserved
loop-place-preserved c =
    pushed_more (picked_bit c.args.start.now c.args.port (tri_at c.args.read.now.init_value)) c.loop-place.kept.items c.push.new.self.items c.start_bit.result c.loop-place.place c.loop-place.invariant c.in_ok-push.ensures.items c.start_bit.ensures
