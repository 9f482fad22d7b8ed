use Rattle.std.proofs.Common.{◌≡◌, take}
use Rattle.sim_cells.specs.KeptBits.{bit_lists}
use Rattle.picked_run.specs.States.{each_cell}
use Rattle.sim_state.specs.Cells.{reg_begins}
use Rattle.sim_state.proofs.registers.start_registers.Given as goal

abbrev pub invariant-loop-index : goal.invariant-loop-index
invariant-loop-index l = bit_lists l.kept.items ≡ each_cell (reg_begins l.first l.seed) 0 (take l.index l.regs)
