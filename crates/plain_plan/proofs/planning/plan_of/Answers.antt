use Rattle.plain_plan.proofs.Gathered.{limits_met}
use Rattle.plain_plan.proofs.planning.plan_of.Goals as goal

pub least_plain-requires : goal.least_plain-requires
least_plain-requires c = limits_met c.args.lib.now c.args.mem.now (record { mem = c.in_ok-copy.field-0; quiet = c.from_vec.result }) c.requires.library c.requires.memory c.in_ok-copy.ensures
