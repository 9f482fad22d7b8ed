use Rattle.trace_text.specs.Trace.{rows_of}
use Rattle.trace_text.specs.Lengths.{text_bytes, runs_bytes, digits_below, events_bytes}
use Rattle.trace_text.proofs.Capping.{runs_sum}
use Rattle.trace_text.proofs.length.trace_length.Goals as goal

pub returns : goal.returns
unfolding text_bytes runs_bytes
returns c =
    runs_sum _ (digits_below c.args.seeds) c.args.seeds (events_bytes (rows_of c.args.«module».now) c.args.events) _ _ _ _ _ c.digits_below.ensures c.events_bytes.ensures
    c.saturating_add-run.ensures c.saturating_mul.ensures c.saturating_add.ensures
