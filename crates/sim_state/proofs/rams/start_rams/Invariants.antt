use Rattle.std.proofs.Common.{◌≡◌, take}
use Rattle.picked_run.specs.States.{each_cell}
use Rattle.sim_state.specs.Cells.{AreStates, IsKeptByRam, ram_begins}
use Rattle.sim_state.proofs.rams.start_rams.Given as goal

abbrev pub invariant-loop-index : goal.invariant-loop-index
invariant-loop-index l =
    (l.states.items ≡ each_cell (ram_begins l.library l.first l.seed) 0 (take l.index l.cells)) × AreStates IsKeptByRam (take l.index l.cells) l.states.items
