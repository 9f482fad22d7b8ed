use Rattle.net_core.proofs.AlikeAll.{alike_allowed_alike}
use Rattle.net_core.proofs.laws.alike_allowed_alike.Goals as goal

pub returns : goal.returns
returns c = alike_allowed_alike
