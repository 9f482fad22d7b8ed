use Rattle.net_edit.specs.Redirect.{redirected_part}
use Rattle.net_edit.proofs.Mapping.{written_copy}
use Rattle.net_edit.proofs.redirect.redirect_parts.Goals as goal

pub loop-part-preserved : goal.loop-part-preserved
loop-part-preserved c = written_copy (redirected_part c.args.reads.now) _ c.loop-part.part-items c.loop-part.part-index _ c.redirect_part.new.part c.loop-part-test.true c.loop-part.invariant c.redirect_part.ensures
