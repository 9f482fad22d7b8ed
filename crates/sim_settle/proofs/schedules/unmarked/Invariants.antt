use Rattle.sim_settle.specs.Marks.{IsUnmarked}
use Rattle.sim_settle.proofs.schedules.unmarked.Given as goal

abbrev pub invariant-loop-net : goal.invariant-loop-net
invariant-loop-net l = IsUnmarked l.marks l.net l.nets.items
