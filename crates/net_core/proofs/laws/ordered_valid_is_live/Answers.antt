use Rattle.net_core.proofs.Settle.{ordered_live}
use Rattle.net_core.proofs.laws.ordered_valid_is_live.Goals as goal

pub returns : goal.returns
returns c = λ lib modules m valid o. ordered_live lib m valid.driven valid.reads_agree o
