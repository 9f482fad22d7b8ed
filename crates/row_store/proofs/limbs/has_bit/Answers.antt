use Rattle.row_store.proofs.Lanes.{tested}
use Rattle.row_store.proofs.limbs.has_bit.Goals as goal

pub returns : goal.returns
returns g c = tested c.args.limbs.now c.args.place
