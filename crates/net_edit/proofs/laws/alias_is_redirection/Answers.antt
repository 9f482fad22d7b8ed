use Rattle.net_edit.proofs.RedirectedOrder.{alias_is_redirection}
use Rattle.net_edit.proofs.laws.alias_is_redirection.Goals as goal

pub returns : goal.returns
returns c = alias_is_redirection
