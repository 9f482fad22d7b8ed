use Rattle.net_same.proofs.Learning.{net_taught}
use Rattle.net_same.proofs.nets.U32Wired.learn.Goals as goal

pub returns : goal.returns
returns c = net_taught c.args.self.now c.args.other.now c.args.tables.now c.enter.new.self c.enter.ensures.forth c.enter.ensures.back
