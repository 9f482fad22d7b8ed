use Rattle.cycle_sim.proofs.Seeds.{more_shown}
use Rattle.cycle_sim.proofs.traces.trace_each.Goals as goal

pub loop-index-preserved : goal.loop-index-preserved
loop-index-preserved c =
    more_shown c.args.library.now c.args.«module».now c.args.events.now c.args.first c.loop-index.index c.loop-index.traces.items c.push.new.self.items _ c.loop-index.invariant c.in_ok-trace_one.ensures c.in_ok-push.ensures.items
