use Rattle.std.proofs.Common.{arith, append_assoc}
use Rattle.std.proofs.lemmas.Grind.{common_steps}
use Rattle.ram_emit.proofs.Padding.{range_more}
use Rattle.ram_emit.proofs.bits.push_nets.Goals as goal

pub loop-place-preserved : goal.loop-place-preserved
loop-place-preserved c = grind (arith, common_steps, append_assoc, range_more)
