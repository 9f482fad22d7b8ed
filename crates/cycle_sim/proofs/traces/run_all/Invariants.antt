use Rattle.cycle_sim.proofs.Running.{Follows}
use Rattle.cycle_sim.proofs.traces.run_all.Given as goal

abbrev pub invariant-loop-event : goal.invariant-loop-event
invariant-loop-event l = Follows l.initial.sim l.events l.event-index l.sim l.lines.items
