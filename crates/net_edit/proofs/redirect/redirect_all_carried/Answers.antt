use Rattle.net_edit.specs.Redirect.{redirected_carried}
use Rattle.net_edit.proofs.Mapping.{written_copy}
use Rattle.net_edit.proofs.redirect.redirect_all_carried.Goals as goal

pub loop-cell-preserved : goal.loop-cell-preserved
loop-cell-preserved c = written_copy (redirected_carried c.args.reads.now) _ c.loop-cell.cell-items c.loop-cell.cell-index _ c.redirect_carried.new.cell c.loop-cell-test.true c.loop-cell.invariant c.redirect_carried.ensures
