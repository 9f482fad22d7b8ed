use Rattle.std.proofs.Common.{◌≡◌, ◌++◌, map, take, drop}
use Rattle.net_edit.specs.Redirect.{redirected_wire}
use Rattle.net_edit.proofs.redirect.redirect_wires.Given as goal

abbrev pub invariant-loop-wire : goal.invariant-loop-wire
invariant-loop-wire l = l.wire-items ≡ map (redirected_wire l.reads) (take l.wire-index l.initial.wire-items) ++ drop l.wire-index l.initial.wire-items
