use Rattle.std.proofs.Common.{◌≡◌, ◌++◌, map, take, drop}
use Rattle.net_edit.specs.Redirect.{redirected_carried}
use Rattle.net_edit.proofs.redirect.redirect_all_carried.Given as goal

abbrev pub invariant-loop-cell : goal.invariant-loop-cell
invariant-loop-cell l = l.cell-items ≡ map (redirected_carried l.reads) (take l.cell-index l.initial.cell-items) ++ drop l.cell-index l.initial.cell-items
