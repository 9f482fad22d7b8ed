use Rattle.net_core.proofs.Patching.{patched_is_allowed}
use Rattle.net_core.proofs.laws.patched_is_allowed.Goals as goal

pub returns : goal.returns
returns c = patched_is_allowed
