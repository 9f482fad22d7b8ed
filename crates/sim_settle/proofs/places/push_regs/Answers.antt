use Rattle.sim_settle.specs.declared.places.NodePlace.TheVariants as place
use Rattle.sim_settle.proofs.Pushing.{each_more}
use Rattle.sim_settle.proofs.places.push_regs.Goals as goal

pub loop-reg-preserved : goal.loop-reg-preserved
loop-reg-preserved c = each_more place.Reg c.args.places.now.items c.loop-reg.places.items c.push.new.self.items c.loop-reg.reg c.loop-reg.invariant c.in_ok-push.ensures.items
