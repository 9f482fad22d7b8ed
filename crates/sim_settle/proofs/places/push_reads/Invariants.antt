use Rattle.std.proofs.Common.{◌≡◌, ◌++◌}
use Rattle.sim_settle.specs.declared.places.NodePlace.TheVariants as place
use Rattle.sim_settle.specs.Places.{each_place}
use Rattle.sim_settle.proofs.places.push_reads.Given as goal

abbrev pub invariant-loop-port : goal.invariant-loop-port
invariant-loop-port l = l.places.items ≡ l.initial.places.items ++ each_place (place.Read l.mem) l.port
