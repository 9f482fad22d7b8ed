use Rattle.std.proofs.Common.{◌≡◌, ◌+◌, take, Some, sym, subst, arith}
use Rattle.std.specs.Prelude.{slice_get}
use Rattle.sim_state.specs.Cells.{AreStates, IsKeptByMem, mem_begins}
use Rattle.sim_state.proofs.Listing.{element, cells_more, states_none, states_push}
use Rattle.sim_state.proofs.memories.start_memories.Goals as goal

pub new-requires : goal.new-requires
new-requires c =
    let mem = c.index-mems-index.result in
    c.requires.fit c.loop-index.index mem (element c.args.mems.now c.loop-index.index mem (omega arith) c.index-mems-index.is)

pub loop-index-init : goal.loop-index-init
loop-index-init c = (c.in_ok-states.ensures.items, subst (AreStates IsKeptByMem (take 0 c.args.mems.now)) (sym c.in_ok-states.ensures.items) (states_none IsKeptByMem c.args.mems.now))

pub loop-index-preserved : goal.loop-index-preserved
loop-index-preserved c =
    let n = c.loop-index.index in
    let mem = c.index-mems-index.result in
    let found : slice_get c.args.mems.now n ≡ Some mem = element c.args.mems.now n mem (omega arith) c.index-mems-index.is in
    let pushed = c.in_ok-push.ensures.items in (
      cells_more (mem_begins c.args.first c.args.seed) c.args.mems.now n mem c.loop-index.states.items c.push.new.self.items c.in_ok-state.state found c.loop-index.invariant.0 pushed c.in_ok-state.ensures.value,
      subst (AreStates IsKeptByMem (take (n + 1) c.args.mems.now)) (sym pushed) (states_push IsKeptByMem c.args.mems.now n mem c.loop-index.states.items c.in_ok-state.state found c.loop-index.invariant.1 c.in_ok-state.ensures.state),
    )
