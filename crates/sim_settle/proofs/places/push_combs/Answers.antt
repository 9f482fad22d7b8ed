use Rattle.sim_settle.specs.declared.places.NodePlace.TheVariants as place
use Rattle.sim_settle.proofs.Pushing.{each_more}
use Rattle.sim_settle.proofs.places.push_combs.Goals as goal

pub loop-comb-preserved : goal.loop-comb-preserved
loop-comb-preserved c = each_more place.Comb c.args.places.now.items c.loop-comb.places.items c.push.new.self.items c.loop-comb.comb c.loop-comb.invariant c.in_ok-push.ensures.items
