use Rattle.net_same.proofs.Learning.{some_taught}
use Rattle.net_same.proofs.nets.OptionClockWired.learn.Goals as goal

pub returns-in-Some-other : goal.returns-in-Some-other
returns-in-Some-other c =
    some_taught c.args.self.now c.args.other.now c.in-Some.old c.in-Some-other.new c.args.tables.now c.learn.new.tables c.in-Some.is c.in-Some-other.is c.learn.ensures
