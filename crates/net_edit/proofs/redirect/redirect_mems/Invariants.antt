use Rattle.std.proofs.Common.{◌≡◌, ◌++◌, map, take, drop}
use Rattle.net_edit.specs.Redirect.{redirected_mem}
use Rattle.net_edit.proofs.redirect.redirect_mems.Given as goal

abbrev pub invariant-loop-mem : goal.invariant-loop-mem
invariant-loop-mem l = l.mem-items ≡ map (redirected_mem l.reads) (take l.mem-index l.initial.mem-items) ++ drop l.mem-index l.initial.mem-items
