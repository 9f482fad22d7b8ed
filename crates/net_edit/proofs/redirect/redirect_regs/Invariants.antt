use Rattle.std.proofs.Common.{◌≡◌, ◌++◌, map, take, drop}
use Rattle.net_edit.specs.Redirect.{redirected_reg}
use Rattle.net_edit.proofs.redirect.redirect_regs.Given as goal

abbrev pub invariant-loop-reg : goal.invariant-loop-reg
invariant-loop-reg l = l.reg-items ≡ map (redirected_reg l.reads) (take l.reg-index l.initial.reg-items) ++ drop l.reg-index l.initial.reg-items
