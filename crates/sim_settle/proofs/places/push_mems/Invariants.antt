use Rattle.std.proofs.Common.{◌≡◌, ◌++◌, drop}
use Rattle.sim_settle.specs.Places.{all_places, read_places}
use Rattle.sim_settle.proofs.places.push_mems.Given as goal

abbrev pub invariant-loop-index : goal.invariant-loop-index
invariant-loop-index l = l.places.items ++ all_places read_places l.index (drop l.index l.mems) ≡ l.initial.places.items ++ all_places read_places 0 l.mems
