use Rattle.net_edit.specs.Redirect.{redirected_mem}
use Rattle.net_edit.proofs.Mapping.{written_copy}
use Rattle.net_edit.proofs.redirect.redirect_mems.Goals as goal

pub loop-mem-preserved : goal.loop-mem-preserved
loop-mem-preserved c = written_copy (redirected_mem c.args.reads.now) _ c.loop-mem.mem-items c.loop-mem.mem-index _ c.redirect_mem.new.mem c.loop-mem-test.true c.loop-mem.invariant c.redirect_mem.ensures
