use Rattle.std.proofs.Common.{◌≡◌, ◌++◌, map, take, drop}
use Rattle.net_edit.specs.Redirect.{redirected_comb}
use Rattle.net_edit.proofs.redirect.redirect_combs.Given as goal

abbrev pub invariant-loop-comb : goal.invariant-loop-comb
invariant-loop-comb l = l.comb-items ≡ map (redirected_comb l.reads) (take l.comb-index l.initial.comb-items) ++ drop l.comb-index l.initial.comb-items
