use Rattle.std.proofs.Common.{append_assoc, arith}
use Rattle.std.proofs.lemmas.Grind.{common_steps}
use Rattle.mem_pack.proofs.Steps.{copies_step}
use Rattle.mem_pack.proofs.numbers.push_rows.Goals as goal

pub loop-left-preserved : goal.loop-left-preserved
loop-left-preserved c = grind (arith, common_steps, append_assoc, copies_step)
