use Rattle.net_edit.specs.Redirect.{redirected_ram}
use Rattle.net_edit.proofs.Mapping.{written_copy}
use Rattle.net_edit.proofs.redirect.redirect_rams.Goals as goal

pub loop-ram-preserved : goal.loop-ram-preserved
loop-ram-preserved c = written_copy (redirected_ram c.args.reads.now) _ c.loop-ram.ram-items c.loop-ram.ram-index _ c.redirect_ram.new.ram c.loop-ram-test.true c.loop-ram.invariant c.redirect_ram.ensures
