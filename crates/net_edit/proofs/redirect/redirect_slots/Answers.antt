use Rattle.net_edit.specs.Redirect.{redirected_slot}
use Rattle.net_edit.proofs.Mapping.{written_copy}
use Rattle.net_edit.proofs.redirect.redirect_slots.Goals as goal

pub loop-slot-preserved : goal.loop-slot-preserved
loop-slot-preserved c = written_copy (redirected_slot c.args.reads.now) _ c.loop-slot.slot-items c.loop-slot.slot-index _ c.redirect_slot.new.slot c.loop-slot-test.true c.loop-slot.invariant c.redirect_slot.ensures
