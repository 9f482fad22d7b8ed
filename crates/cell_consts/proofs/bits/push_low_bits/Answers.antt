use Rattle.std.proofs.Common.{append_assoc, arith}
use Rattle.std.proofs.lemmas.Grind.{common_steps}
use Rattle.cell_consts.proofs.LowBits.{low_bits_step, low_bits_none}
use Rattle.cell_consts.proofs.bits.push_low_bits.Goals as goal

pub loop-left-preserved : goal.loop-left-preserved
loop-left-preserved c = grind (arith, common_steps, append_assoc, low_bits_step)

pub returns : goal.returns
returns c = grind (arith, common_steps, low_bits_none)
