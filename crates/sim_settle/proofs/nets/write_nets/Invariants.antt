use Rattle.std.proofs.Common.{◌≡◌, length}
use Rattle.ram_step.specs.Moments.{valuation}
use Rattle.sim_settle.proofs.Writing.{Wrote}
use Rattle.sim_settle.proofs.nets.write_nets.Given as goal

abbrev pub invariant-loop-place : goal.invariant-loop-place
invariant-loop-place l = (length l.values ≡ length l.initial.values) × Wrote l.place l.nets (valuation l.bits) (valuation l.initial.values) (valuation l.values)
