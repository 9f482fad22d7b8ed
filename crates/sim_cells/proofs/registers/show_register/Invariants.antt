use Rattle.std.proofs.Common.{◌≡◌, ℕ, ◌<◌}
use Rattle.net_core.specs.Values.{bit_at}
use Rattle.ram_step.specs.Moments.{valuation}
use Rattle.sim_cells.specs.Registers.{reg_shown}
use Rattle.sim_cells.proofs.registers.show_register.Given as goal

abbrev pub invariant-loop-place : goal.invariant-loop-place
invariant-loop-place l = (k : ℕ) → k < l.place → bit_at l.out k ≡ reg_shown l.reg (valuation l.values) l.key l.kept k
