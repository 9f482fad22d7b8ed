use Rattle.std.proofs.Common.{[]}
use Rattle.ram_step.specs.Moments.{valuation}
use Rattle.sim_cells.specs.KeptBits.{bit_lists}
use Rattle.sim_state.specs.Cells.{AreStates, IsKept, reg_goes}
use Rattle.sim_state.proofs.Listing.{IsSteppedBelow}
use Rattle.sim_state.proofs.registers.step_registers.Given as goal

abbrev pub invariant-loop-index : goal.invariant-loop-index
invariant-loop-index l =
    IsSteppedBelow (reg_goes l.first l.seed l.number l.event (valuation l.values)) [] l.regs (bit_lists l.initial.kept) (bit_lists l.kept) l.index
    × AreStates IsKept l.regs (bit_lists l.kept)
