use Rattle.std.proofs.Common.{◌≡◌, take}
use Rattle.lib_core.specs.Rams.{tri_at}
use Rattle.sim_cells.specs.Memories.{each_read, port_bits}
use Rattle.sim_cells.specs.KeptBits.{bit_lists}
use Rattle.sim_cells.proofs.mems.start_reads.Given as goal

abbrev pub invariant-loop-port : goal.invariant-loop-port
invariant-loop-port l = bit_lists l.kept.items ≡ each_read (λ port r. port_bits l.start port r (tri_at r.init_value)) 0 (take l.port l.mem.reads)
