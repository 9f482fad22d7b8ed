use Rattle.std.proofs.Common.{◌≡◌, ◌++◌, drop}
use Rattle.std.specs.List.{flat_map}
use Rattle.net_live.proofs.drives.push_combs.Given as goal

abbrev pub invariant-loop-comb : goal.invariant-loop-comb
invariant-loop-comb l = l.nets.items ++ flat_map (λ c. c.y) (drop l.comb-index l.combs) ≡ l.initial.nets.items ++ flat_map (λ c. c.y) l.combs
