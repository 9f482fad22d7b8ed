use Rattle.std.proofs.Common.{length}
use Rattle.trace_text.specs.Trace.{rows_of}
use Rattle.trace_text.specs.Lengths.{events_bytes, digits_below, all_bytes}
use Rattle.trace_text.proofs.Capping.{events_sum}
use Rattle.trace_text.proofs.length.events_bytes.Goals as goal

pub returns : goal.returns
unfolding events_bytes
returns c =
    let rows = rows_of c.args.«module».now in
    events_sum _ (length rows) (digits_below c.args.events) c.args.events (all_bytes rows) _ _ _ _ _ _ c.lines_of-lines.ensures.count c.digits_below.ensures c.lines_of-lines.ensures.bytes
    c.saturating_mul-numbers.ensures c.saturating_mul.ensures c.saturating_add.ensures
