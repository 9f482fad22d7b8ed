use Rattle.lib_core.specs.Rams.{tri_at}
use Rattle.sim_cells.specs.Choices.{taken}
use Rattle.sim_cells.proofs.Filling.{pushed_more}
use Rattle.sim_cells.proofs.registers.start_register.Goals as goal

pub loop-place-preserved : goal.loop-place-preserved
loop-place-preserved c =
    pushed_more (λ k. taken c.start_key-start.result k (tri_at c.args.reg.now.init k)) c.loop-place.kept.items c.push.new.self.items c.start_bit.result c.loop-place.place c.loop-place.invariant c.in_ok-push.ensures.items
    c.start_bit.ensures
