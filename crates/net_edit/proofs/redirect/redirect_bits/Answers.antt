use Rattle.net_edit.specs.Redirect.{bit_read}
use Rattle.net_edit.proofs.Mapping.{written_copy}
use Rattle.net_edit.proofs.redirect.redirect_bits.Goals as goal

pub loop-bit-preserved : goal.loop-bit-preserved
loop-bit-preserved c = written_copy (bit_read c.args.reads.now) _ c.loop-bit.bit-items c.loop-bit.bit-index _ c.bit_read.result c.loop-bit-test.true c.loop-bit.invariant c.bit_read.ensures
