use Rattle.net_edit.specs.Redirect.{redirected_reg}
use Rattle.net_edit.proofs.Mapping.{written_copy}
use Rattle.net_edit.proofs.redirect.redirect_regs.Goals as goal

pub loop-reg-preserved : goal.loop-reg-preserved
loop-reg-preserved c = written_copy (redirected_reg c.args.reads.now) _ c.loop-reg.reg-items c.loop-reg.reg-index _ c.redirect_reg.new.reg c.loop-reg-test.true c.loop-reg.invariant c.redirect_reg.ensures
