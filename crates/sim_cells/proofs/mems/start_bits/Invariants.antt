use Rattle.std.proofs.Common.{◌≡◌, map}
use Rattle.std.specs.List.{range_with_len}
use Rattle.lib_core.specs.Rams.{tri_at}
use Rattle.sim_cells.specs.Memories.{picked_bit}
use Rattle.sim_cells.proofs.mems.start_bits.Given as goal

abbrev pub invariant-loop-place : goal.invariant-loop-place
invariant-loop-place l = l.kept.items ≡ map (picked_bit l.start l.port (tri_at l.read.init_value)) (range_with_len 0 l.place)
