use Rattle.std.proofs.Common.{◌≡◌, ℕ, ◌<◌, ◌≤◌, length, false, get_or}
use Rattle.ram_step.specs.Moments.{valuation}
use Rattle.sim_cells.specs.Choices.{taken}
use Rattle.sim_cells.specs.Registers.{reg_next_tri}
use Rattle.sim_cells.proofs.registers.step_register.Given as goal

abbrev pub invariant-loop-place : goal.invariant-loop-place
invariant-loop-place l =
    (length l.kept ≡ length l.initial.kept)
    × ((k : ℕ) → k < l.place → get_or l.kept k false ≡ taken l.key k (reg_next_tri l.reg (valuation l.values) l.event l.initial.kept k))
    × ((k : ℕ) → l.place ≤ k → get_or l.kept k false ≡ get_or l.initial.kept k false)
