use Rattle.net_edit.specs.Redirect.{redirected_write}
use Rattle.net_edit.proofs.Mapping.{written_copy}
use Rattle.net_edit.proofs.redirect.redirect_writes.Goals as goal

pub loop-write-preserved : goal.loop-write-preserved
loop-write-preserved c = written_copy (redirected_write c.args.reads.now) _ c.loop-write.write-items c.loop-write.write-index _ c.redirect_write.new.write c.loop-write-test.true c.loop-write.invariant c.redirect_write.ensures
