use Rattle.net_collect.proofs.Refusals.{named_fault}
use Rattle.net_collect.proofs.assembly.collect_named.Goals as goal

pub returns-in-Err : goal.returns-in-Err
returns-in-Err c = named_fault c.args.module c.args.name c.in-Err.fault c.requires c.in-Err.ensures
