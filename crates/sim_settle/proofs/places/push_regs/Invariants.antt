use Rattle.std.proofs.Common.{◌≡◌, ◌++◌}
use Rattle.sim_settle.specs.declared.places.NodePlace.TheVariants as place
use Rattle.sim_settle.specs.Places.{each_place}
use Rattle.sim_settle.proofs.places.push_regs.Given as goal

abbrev pub invariant-loop-reg : goal.invariant-loop-reg
invariant-loop-reg l = l.places.items ≡ l.initial.places.items ++ each_place place.Reg l.reg
