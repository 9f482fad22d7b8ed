use Rattle.std.proofs.Common.{◌≡◌, ◌++◌, map, take, drop}
use Rattle.net_edit.specs.Redirect.{redirected_read}
use Rattle.net_edit.proofs.redirect.redirect_reads.Given as goal

abbrev pub invariant-loop-read : goal.invariant-loop-read
invariant-loop-read l = l.read-items ≡ map (redirected_read l.reads) (take l.read-index l.initial.read-items) ++ drop l.read-index l.initial.read-items
