use Rattle.std.proofs.Common.{arith}
use Rattle.sim_flow.proofs.Traced.{are_traces}
use Rattle.sim_flow.proofs.tracing.trace_of.Goals as goal

pub trace_all-requires-clause-inputs : goal.trace_all-requires-clause-inputs
trace_all-requires-clause-inputs g c = λ lives within t e at. omega (arith, (c.requires.whole.each t e at).values)

pub returns-clause-traced : goal.returns-clause-traced
returns-clause-traced g c =
    are_traces c.shown_is_trace.ensures c.text_has_bytes.ensures c.args.library.now c.args.«module».now c.args.events.now c.args.seeds c.trace_length-seen.result c.in_ok-traces.traces c.in_ok-text.text.items
    c.requires.runs c.requires.whole c.in_ok-traces.ensures (rw c.as_slice.ensures at c.trace_length-seen.ensures) (omega arith) c.in_ok-text.ensures
