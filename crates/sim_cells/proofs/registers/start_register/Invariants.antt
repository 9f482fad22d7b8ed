use Rattle.std.proofs.Common.{◌≡◌, map}
use Rattle.std.specs.List.{range_with_len}
use Rattle.lib_core.specs.Rams.{tri_at}
use Rattle.sim_cells.specs.Choices.{taken}
use Rattle.sim_cells.proofs.registers.start_register.Given as goal

abbrev pub invariant-loop-place : goal.invariant-loop-place
invariant-loop-place l = l.kept.items ≡ map (λ k. taken l.start k (tri_at l.reg.init k)) (range_with_len 0 l.place)
