use Rattle.sim_settle.specs.declared.places.NodePlace.TheVariants as place
use Rattle.sim_settle.proofs.Pushing.{each_more}
use Rattle.sim_settle.proofs.places.push_reads.Goals as goal

pub loop-port-preserved : goal.loop-port-preserved
loop-port-preserved c = each_more (place.Read c.args.mem) c.args.places.now.items c.loop-port.places.items c.push.new.self.items c.loop-port.port c.loop-port.invariant c.in_ok-push.ensures.items
