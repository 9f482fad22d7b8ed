use Rattle.std.proofs.Common.{length, length-append, arith}
use Rattle.trace_text.specs.Lengths.{all_bytes}
use Rattle.trace_text.proofs.Sizes.{cells_sum, all_append}
use Rattle.trace_text.proofs.length.with_cells.Goals as goal

pub loop-rest-preserved : goal.loop-rest-preserved
loop-rest-preserved c = record {
  count =
      cells_sum (λ rows. length rows) _ _ c.loop-rest.rest.now c.cell-item.result _ (λ xs ys. length-append xs ys) c.in-len1-up.len_at_least c.cell-item.is
      (rw c.as_slice.ensures at c.with_pins-lines.ensures.count) c.loop-rest.invariant.count;
  bytes =
      cells_sum all_bytes _ _ c.loop-rest.rest.now c.cell-item.result _ all_append c.in-len1-up.len_at_least c.cell-item.is
      (rw c.as_slice.ensures at c.with_pins-lines.ensures.bytes) c.loop-rest.invariant.bytes;
  few = omega (arith, c.with_pins-lines.ensures.count);
  small = omega (arith, c.with_pins-lines.ensures.bytes);
}
