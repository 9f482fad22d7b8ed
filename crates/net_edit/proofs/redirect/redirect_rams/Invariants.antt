use Rattle.std.proofs.Common.{◌≡◌, ◌++◌, map, take, drop}
use Rattle.net_edit.specs.Redirect.{redirected_ram}
use Rattle.net_edit.proofs.redirect.redirect_rams.Given as goal

abbrev pub invariant-loop-ram : goal.invariant-loop-ram
invariant-loop-ram l = l.ram-items ≡ map (redirected_ram l.reads) (take l.ram-index l.initial.ram-items) ++ drop l.ram-index l.initial.ram-items
