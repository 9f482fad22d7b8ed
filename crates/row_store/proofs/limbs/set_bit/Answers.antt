use Rattle.std.proofs.Common.{arith}
use Rattle.row_store.proofs.Lanes.{set_in}
use Rattle.row_store.proofs.limbs.set_bit.Goals as goal

pub returns : goal.returns
returns g c = λ k. set_in c.args.limbs.now c.args.place k (omega arith)
