use Rattle.std.proofs.Common.{◌≡◌, ◌++◌}
use Rattle.sim_settle.specs.declared.places.NodePlace.TheVariants as place
use Rattle.sim_settle.specs.Places.{each_place}
use Rattle.sim_settle.proofs.places.push_slots.Given as goal

abbrev pub invariant-loop-slot : goal.invariant-loop-slot
invariant-loop-slot l = l.places.items ≡ l.initial.places.items ++ each_place (place.Slot l.cell) l.slot
