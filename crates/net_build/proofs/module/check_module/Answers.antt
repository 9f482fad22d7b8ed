use Rattle.std.proofs.Common.{List, subst, Ok, Err}
use Rattle.rtlil_text.specs.declared.doc.Item.{Item}
use Rattle.net_build.proofs.Built.{checks_err, checks_ok, FindingAt}
use Rattle.net_build.proofs.module.check_module.Goals as goal

pub returns-in-Ok : goal.returns-in-Ok
returns-in-Ok c =
    checks_ok c.args.inouts.now c.args.doc.now c.args.gathered.now c.in-Ok.checked c.requires.sound c.answers_are_there.ensures
    (subst (λ (is : List Item). FindingAt c.args.inouts.now is c.args.gathered.now (Ok c.in-Ok.checked)) c.as_slice.ensures c.in-Ok.ensures)

pub returns-in-Err : goal.returns-in-Err
returns-in-Err c =
    checks_err c.args.inouts.now c.args.doc.now c.args.gathered.now c.in-Err.halt c.refuse_module.result c.requires.sound c.answers_are_there.ensures
    (subst (λ (is : List Item). FindingAt c.args.inouts.now is c.args.gathered.now (Err c.in-Err.halt)) c.as_slice.ensures c.in-Err.ensures) c.refuse_module.ensures
