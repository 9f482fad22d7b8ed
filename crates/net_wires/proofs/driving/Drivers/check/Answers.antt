use Rattle.net_wires.proofs.Tallying.{conflict_stops, constant_conflict, double_conflict, no_conflict}
use Rattle.net_wires.proofs.driving.Drivers.check.Goals as goal

pub returns-then-self : goal.returns-then-self
returns-then-self c = λ n driven t. conflict_stops n driven (constant_conflict n driven c.args.self.now t c.if-self.true) c.broken.result c.broken.ensures

pub returns-in-Some : goal.returns-in-Some
returns-in-Some c = λ n driven t. conflict_stops n driven (double_conflict n driven c.in-Some.field-0 (c.in-Some.ensures n driven t)) c.broken-in-Some.result c.broken-in-Some.ensures

pub returns-in-None : goal.returns-in-None
returns-in-None c = λ n driven t. (no_conflict n driven c.args.self.now t c.if-self.false (c.in-None.ensures n driven t), tt)
