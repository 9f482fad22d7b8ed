use Rattle.std.proofs.Common.{◌≡◌, take}
use Rattle.picked_run.specs.States.{each_cell}
use Rattle.sim_state.specs.Cells.{AreStates, IsKeptByMem, mem_begins}
use Rattle.sim_state.proofs.memories.start_memories.Given as goal

abbrev pub invariant-loop-index : goal.invariant-loop-index
invariant-loop-index l =
    (l.states.items ≡ each_cell (mem_begins l.first l.seed) 0 (take l.index l.mems)) × AreStates IsKeptByMem (take l.index l.mems) l.states.items
