use Rattle.std.proofs.Common.{◌≡◌, ◌++◌, drop}
use Rattle.sim_settle.specs.Places.{all_places, slot_places}
use Rattle.sim_settle.proofs.places.push_rams.Given as goal

abbrev pub invariant-loop-index : goal.invariant-loop-index
invariant-loop-index l = l.places.items ++ all_places slot_places l.index (drop l.index l.rams) ≡ l.initial.places.items ++ all_places slot_places 0 l.rams
