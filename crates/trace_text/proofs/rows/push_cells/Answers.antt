use Rattle.std.proofs.Common.{ap, ◌∙◌, ◌++◌, map}
use Rattle.trace_text.specs.Trace.{pin_row, reading}
use Rattle.trace_text.proofs.Spelled.{cells_on}
use Rattle.trace_text.proofs.rows.push_cells.Goals as goal

pub loop-rest-preserved : goal.loop-rest-preserved
loop-rest-preserved c =
    cells_on c.loop-rest.rows.items c.push_pins.new.rows.items _ c.loop-rest.rest.now c.cell-item.result c.in-len1-up.len_at_least c.cell-item.is
    (c.in_ok-push_pins.ensures ∙ ap (λ ps. c.loop-rest.rows.items ++ map (λ p. pin_row c.cell-item.result.name p) (reading ps)) c.as_slice.ensures) c.loop-rest.invariant
