use Rattle.cycle_sim.proofs.traces.+fn-trace_some-join+arg2+fn-trace_some-join+arg3+trace_some.Given as goal

abbrev pub decreases-join+arg2 : goal.decreases-join+arg2
decreases-join+arg2 g l = l.low

abbrev pub decreases-join+arg3 : goal.decreases-join+arg3
decreases-join+arg3 g l = l.high

abbrev pub decreases-trace_some : goal.decreases-trace_some
decreases-trace_some g l = l.count
