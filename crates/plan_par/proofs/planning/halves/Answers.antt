use Rattle.std.proofs.Common.{◌/◌, ◌-◌, ◌+◌, length, arith}
use Rattle.plan_par.proofs.Parts.{part_front, part_back}
use Rattle.plan_par.proofs.planning.halves.Goals as goal

pub returns-clause-front : goal.returns-clause-front
returns-clause-front c = part_front (c.args.workers / 2) c.args.first (length c.args.jobs.now / 2) c.args.jobs.now c.split_at.result.0.now c.args.lib.now c.requires.within c.split_at.ensures.front (omega arith) (omega arith)

pub returns-clause-back : goal.returns-clause-back
returns-clause-back c = part_back (c.args.workers - c.args.workers / 2) (c.args.first + length c.split_at.result.0.now) (length c.args.jobs.now / 2) c.args.jobs.now c.split_at.result.1.now c.args.lib.now c.requires.within c.split_at.ensures.back (omega arith) (omega arith)
