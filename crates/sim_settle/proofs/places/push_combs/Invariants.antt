use Rattle.std.proofs.Common.{◌≡◌, ◌++◌}
use Rattle.sim_settle.specs.declared.places.NodePlace.TheVariants as place
use Rattle.sim_settle.specs.Places.{each_place}
use Rattle.sim_settle.proofs.places.push_combs.Given as goal

abbrev pub invariant-loop-comb : goal.invariant-loop-comb
invariant-loop-comb l = l.places.items ≡ l.initial.places.items ++ each_place place.Comb l.comb
