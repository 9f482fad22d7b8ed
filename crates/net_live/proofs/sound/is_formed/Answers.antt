use Rattle.std.proofs.Common.{rules}
use Rattle.net_live.proofs.Sounding.{formed_told}
use Rattle.net_live.proofs.sound.is_formed.Goals as goal

pub returns-then-mems_fit-clause-exact : goal.returns-then-mems_fit-clause-exact
returns-then-mems_fit-clause-exact c = formed_told c.args.lib.now c.args.module.now c.cells_agree.result (search rules)

pub returns-else-mems_fit-clause-exact : goal.returns-else-mems_fit-clause-exact
returns-else-mems_fit-clause-exact c = formed_told c.args.lib.now c.args.module.now c.if-is_whole.value (search rules)
