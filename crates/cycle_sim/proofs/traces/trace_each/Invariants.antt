use Rattle.cycle_sim.specs.Traces.{AreShown}
use Rattle.cycle_sim.proofs.traces.trace_each.Given as goal

abbrev pub invariant-loop-index : goal.invariant-loop-index
invariant-loop-index l = AreShown l.library l.«module» l.events l.first l.index l.traces.items
