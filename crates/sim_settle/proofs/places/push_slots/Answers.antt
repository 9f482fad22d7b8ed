use Rattle.sim_settle.specs.declared.places.NodePlace.TheVariants as place
use Rattle.sim_settle.proofs.Pushing.{each_more}
use Rattle.sim_settle.proofs.places.push_slots.Goals as goal

pub loop-slot-preserved : goal.loop-slot-preserved
loop-slot-preserved c = each_more (place.Slot c.args.cell) c.args.places.now.items c.loop-slot.places.items c.push.new.self.items c.loop-slot.slot c.loop-slot.invariant c.in_ok-push.ensures.items
