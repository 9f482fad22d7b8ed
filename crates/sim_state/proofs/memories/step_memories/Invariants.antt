use Rattle.ram_step.specs.Moments.{valuation}
use Rattle.sim_state.specs.Cells.{AreStates, IsKeptByMem, mem_goes}
use Rattle.sim_state.proofs.Listing.{IsSteppedBelow}
use Rattle.sim_state.proofs.Kept.{no_mem}
use Rattle.sim_state.proofs.memories.step_memories.Given as goal

abbrev pub invariant-loop-index : goal.invariant-loop-index
invariant-loop-index l =
    IsSteppedBelow (mem_goes l.first l.seed l.number l.event (valuation l.values)) no_mem l.mems l.initial.states l.states l.index × AreStates IsKeptByMem l.mems l.states
