use Rattle.std.proofs.Common.{◌+◌, ◌-◌, ◌/◌}
use Rattle.cycle_sim.specs.Traces.{AreShown}
use Rattle.cycle_sim.proofs.Seeds.{ok_at, two_halves}
use Rattle.cycle_sim.proofs.traces.+fn-trace_some-join+arg2+fn-trace_some-join+arg3+trace_some.Goals as goal

pub returns : goal.returns
returns g n c =
    let lib = c.args.library.now in
    let m = c.args.«module».now in
    let events = c.args.events.now in
    let first = c.args.first in
    let count = c.args.count in
    two_halves lib m events first count c.in_ok-front.front.items c.in_ok-back.back.items c.in_ok-all.all.items
    (ok_at c.join-left.result.0 c.in_ok-front.front (λ t. AreShown lib m events first (count / 2) t.items) c.in_ok-front.was c.join-left.ensures.first)
    (ok_at c.join-left.result.1 c.in_ok-back.back (λ t. AreShown lib m events (first + count / 2) (count - count / 2) t.items) c.in_ok-back.was c.join-left.ensures.second)
    c.in_ok-all.ensures
