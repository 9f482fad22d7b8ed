use Rattle.std.proofs.Common.{◌≡◌, take}
use Rattle.plan_search.specs.Rams.{fold_at, at_ram}
use Rattle.plan_search.proofs.best.search_rams.Given as goal

abbrev pub invariant-loop-ram : goal.invariant-loop-ram
invariant-loop-ram l = l.best ≡ fold_at (at_ram l.job l.style) l.initial.best 0 (take l.ram l.lib.rams)
