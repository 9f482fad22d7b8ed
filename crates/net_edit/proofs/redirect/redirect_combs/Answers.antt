use Rattle.net_edit.specs.Redirect.{redirected_comb}
use Rattle.net_edit.proofs.Mapping.{written_copy}
use Rattle.net_edit.proofs.redirect.redirect_combs.Goals as goal

pub loop-comb-preserved : goal.loop-comb-preserved
loop-comb-preserved c = written_copy (redirected_comb c.args.reads.now) _ c.loop-comb.comb-items c.loop-comb.comb-index _ c.redirect_comb.new.comb c.loop-comb-test.true c.loop-comb.invariant c.redirect_comb.ensures
