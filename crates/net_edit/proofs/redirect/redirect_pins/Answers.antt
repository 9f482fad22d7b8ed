use Rattle.net_edit.specs.Redirect.{redirected_pin}
use Rattle.net_edit.proofs.Mapping.{written_copy}
use Rattle.net_edit.proofs.redirect.redirect_pins.Goals as goal

pub loop-pin-preserved : goal.loop-pin-preserved
loop-pin-preserved c = written_copy (redirected_pin c.args.reads.now) _ c.loop-pin.pin-items c.loop-pin.pin-index _ c.redirect_pin.new.pin c.loop-pin-test.true c.loop-pin.invariant c.redirect_pin.ensures
