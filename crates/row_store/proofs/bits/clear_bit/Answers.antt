use Rattle.std.proofs.Common.{arith}
use Rattle.row_store.proofs.BitLists.{clear_in}
use Rattle.row_store.proofs.bits.clear_bit.Goals as goal

pub returns : goal.returns
returns g c = λ k. clear_in c.args.limbs.now c.args.place k (omega arith)
