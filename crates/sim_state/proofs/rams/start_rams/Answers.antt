use Rattle.std.proofs.Common.{◌≡◌, ◌+◌, take, Some, sym, subst, arith}
use Rattle.std.specs.Prelude.{slice_get}
use Rattle.sim_state.specs.Cells.{AreStates, IsKeptByRam, ram_begins}
use Rattle.sim_state.proofs.Listing.{element, cells_more, states_none, states_push}
use Rattle.sim_state.proofs.rams.start_rams.Goals as goal

pub start_ram-requires : goal.start_ram-requires
start_ram-requires c =
    let cell = c.index-cells-index.result in
    c.requires.runs c.loop-index.index cell (element c.args.cells.now c.loop-index.index cell (omega arith) c.index-cells-index.is)

pub loop-index-init : goal.loop-index-init
loop-index-init c = (c.in_ok-states.ensures.items, subst (AreStates IsKeptByRam (take 0 c.args.cells.now)) (sym c.in_ok-states.ensures.items) (states_none IsKeptByRam c.args.cells.now))

pub loop-index-preserved : goal.loop-index-preserved
loop-index-preserved c =
    let n = c.loop-index.index in
    let cell = c.index-cells-index.result in
    let found : slice_get c.args.cells.now n ≡ Some cell = element c.args.cells.now n cell (omega arith) c.index-cells-index.is in
    let pushed = c.in_ok-push.ensures.items in (
      cells_more (ram_begins c.args.library.now c.args.first c.args.seed) c.args.cells.now n cell c.loop-index.states.items c.push.new.self.items c.in_ok-state.state found c.loop-index.invariant.0 pushed c.in_ok-state.ensures.value,
      subst (AreStates IsKeptByRam (take (n + 1) c.args.cells.now)) (sym pushed) (states_push IsKeptByRam c.args.cells.now n cell c.loop-index.states.items c.in_ok-state.state found c.loop-index.invariant.1 c.in_ok-state.ensures.state),
    )
