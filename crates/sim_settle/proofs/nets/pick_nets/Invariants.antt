use Rattle.std.proofs.Common.{◌≡◌, length}
use Rattle.lib_core.specs.Picks.{picked}
use Rattle.ram_step.specs.Moments.{valuation}
use Rattle.sim_settle.proofs.Writing.{Filled}
use Rattle.sim_settle.proofs.nets.pick_nets.Given as goal

abbrev pub invariant-loop-net : goal.invariant-loop-net
invariant-loop-net l = (length l.values ≡ length l.initial.values) × Filled l.net-index l.nets (picked l.seed l.event 0) (valuation l.initial.values) (valuation l.values)
