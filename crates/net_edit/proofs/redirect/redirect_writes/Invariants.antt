use Rattle.std.proofs.Common.{◌≡◌, ◌++◌, map, take, drop}
use Rattle.net_edit.specs.Redirect.{redirected_write}
use Rattle.net_edit.proofs.redirect.redirect_writes.Given as goal

abbrev pub invariant-loop-write : goal.invariant-loop-write
invariant-loop-write l = l.write-items ≡ map (redirected_write l.reads) (take l.write-index l.initial.write-items) ++ drop l.write-index l.initial.write-items
