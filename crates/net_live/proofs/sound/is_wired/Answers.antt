use Rattle.std.proofs.Common.{rules}
use Rattle.net_live.proofs.Sounding.{wired_told}
use Rattle.net_live.proofs.sound.is_wired.Goals as goal

pub returns : goal.returns
returns c = wired_told c.args.module.now c.in_ok-once.once (search rules) (search rules) c.in_ok-once.ensures
