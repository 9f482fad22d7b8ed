use Rattle.ram_step.specs.Moments.{valuation}
use Rattle.sim_state.specs.Cells.{AreStates, IsKeptByRam, ram_goes}
use Rattle.sim_state.proofs.Listing.{IsSteppedBelow}
use Rattle.std.proofs.Common.{None}
use Rattle.sim_state.proofs.rams.step_rams.Given as goal

abbrev pub invariant-loop-index : goal.invariant-loop-index
invariant-loop-index l =
    IsSteppedBelow (ram_goes l.first l.seed l.number l.event (valuation l.values)) None l.cells l.initial.states l.states l.index × AreStates IsKeptByRam l.cells l.states
