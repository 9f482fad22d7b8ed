use Rattle.net_edit.specs.Redirect.{redirected_read}
use Rattle.net_edit.proofs.Mapping.{written_copy}
use Rattle.net_edit.proofs.redirect.redirect_reads.Goals as goal

pub loop-read-preserved : goal.loop-read-preserved
loop-read-preserved c = written_copy (redirected_read c.args.reads.now) _ c.loop-read.read-items c.loop-read.read-index _ c.redirect_read.new.read c.loop-read-test.true c.loop-read.invariant c.redirect_read.ensures
