use Rattle.fit_pairs.proofs.Admitting.{admits_same}
use Rattle.fit_pairs.proofs.items.fill_admits.Goals as goal

pub returns : goal.returns
returns c = admits_same c.args.fill c.args.value.now c.admits.result c.admits.ensures
