use Rattle.std.proofs.Common.{arith}
use Rattle.trace_text.proofs.Digits.{length_one, length_step, length_most}
use Rattle.trace_text.proofs.length.digit_count.Goals as goal

pub overflow_add-count : goal.overflow_add-count
overflow_add-count c = omega (arith, c.loop-rest.invariant.so_far, length_most c.args.number (omega arith))

pub loop-rest-preserved : goal.loop-rest-preserved
loop-rest-preserved c = record {
  so_far = omega (arith, c.loop-rest.invariant.so_far, length_step c.loop-rest.rest (omega arith) (omega arith));
  low = omega arith;
}

pub returns : goal.returns
returns c = omega (arith, c.loop-rest.invariant.so_far, length_one c.loop-rest.rest (omega arith))
