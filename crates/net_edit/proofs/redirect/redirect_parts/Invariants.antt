use Rattle.std.proofs.Common.{◌≡◌, ◌++◌, map, take, drop}
use Rattle.net_edit.specs.Redirect.{redirected_part}
use Rattle.net_edit.proofs.redirect.redirect_parts.Given as goal

abbrev pub invariant-loop-part : goal.invariant-loop-part
invariant-loop-part l = l.part-items ≡ map (redirected_part l.reads) (take l.part-index l.initial.part-items) ++ drop l.part-index l.initial.part-items
