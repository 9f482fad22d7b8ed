use Rattle.std.proofs.Common.{◌∙◌, append_assoc, arith}
use Rattle.std.proofs.lemmas.Grind.{common_steps}
use Rattle.cell_consts.proofs.LowBits.{text_bits_more, text_bits_done}
use Rattle.cell_consts.proofs.bits.text_bits.Goals as goal

pub loop-place-preserved : goal.loop-place-preserved
loop-place-preserved c = grind (arith, common_steps, append_assoc, text_bits_more)

pub returns : goal.returns
returns c = c.from_vec.ensures ∙ text_bits_done c.loop-place.bits.items c.args.text.now c.loop-place.place (omega arith) c.loop-place.invariant
