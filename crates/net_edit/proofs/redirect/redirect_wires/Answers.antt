use Rattle.net_edit.specs.Redirect.{redirected_wire}
use Rattle.net_edit.proofs.Mapping.{written_copy}
use Rattle.net_edit.proofs.redirect.redirect_wires.Goals as goal

pub loop-wire-preserved : goal.loop-wire-preserved
loop-wire-preserved c = written_copy (redirected_wire c.args.reads.now) _ c.loop-wire.wire-items c.loop-wire.wire-index _ c.redirect_wire.new.wire c.loop-wire-test.true c.loop-wire.invariant c.redirect_wire.ensures
