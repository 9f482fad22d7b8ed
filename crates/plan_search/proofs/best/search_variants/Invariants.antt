use Rattle.std.proofs.Common.{◌≡◌, take}
use Rattle.plan_search.specs.Rams.{fold_at, at_variant_number}
use Rattle.plan_search.proofs.best.search_variants.Given as goal

abbrev pub invariant-loop-at : goal.invariant-loop-at
invariant-loop-at l = l.best ≡ fold_at (at_variant_number l.job l.ram) l.initial.best 0 (take l.at l.kind.variants)
