use Rattle.std.proofs.Common.{◌≡◌, map, take}
use Rattle.sim_settle.specs.Places.{place_by}
use Rattle.sim_settle.proofs.schedules.taken.Given as goal

abbrev pub invariant-loop-node : goal.invariant-loop-node
invariant-loop-node l = l.work.items ≡ map (place_by l.places) (take l.node-index l.order)
