use Rattle.std.proofs.Common.{append_assoc, arith}
use Rattle.std.proofs.lemmas.Grind.{common_steps}
use Rattle.trace_text.proofs.Spelled.{digits_more}
use Rattle.trace_text.proofs.print.push_digits.Goals as goal

pub loop-place-preserved : goal.loop-place-preserved
loop-place-preserved c = grind (arith, common_steps, append_assoc, digits_more)
