use Rattle.std.proofs.Common.{◌≡◌, ◌<◌, length, get_or, Some, arith}
use Rattle.std.specs.Prelude.{slice_get}
use Rattle.std.proofs.lemmas.Option.{slice_get-get_or}
use Rattle.ram_step.specs.Moments.{valuation}
use Rattle.sim_state.specs.Cells.{IsKeptByMem, mem_goes}
use Rattle.sim_state.proofs.Listing.{element, stepped_none, stepped_at, stepped_all, states_at}
use Rattle.sim_state.proofs.Kept.{no_mem}
use Rattle.sim_state.proofs.memories.step_memories.Goals as goal

pub loop-index-init : goal.loop-index-init
loop-index-init c =
    (stepped_none (mem_goes c.args.first c.args.seed c.args.number c.args.event.now (valuation c.args.values.now)) no_mem c.args.mems.now c.args.states.now, c.requires.state)

pub step-requires-clause-fits : goal.step-requires-clause-fits
step-requires-clause-fits c =
    let mem = c.index-mems-index.result in
    c.requires.fit c.loop-index.index mem (element c.args.mems.now c.loop-index.index mem (omega arith) c.index-mems-index.is)

pub step-requires-clause-state : goal.step-requires-clause-state
step-requires-clause-state c =
    let n = c.loop-index.index in
    let mem = c.index-mems-index.result in
    let same = c.loop-index.invariant.1.count in
    let inside : n < length c.loop-index.states = omega (arith, same) in
    let was = get_or c.loop-index.states n c.index-states-index.result in
    c.loop-index.invariant.1.each n mem was
    (element c.args.mems.now n mem (omega arith) c.index-mems-index.is)
    (slice_get-get_or c.loop-index.states n c.index-states-index.result inside)

pub loop-index-preserved : goal.loop-index-preserved
loop-index-preserved c =
    let n = c.loop-index.index in
    let mem = c.index-mems-index.result in
    let same = c.loop-index.invariant.1.count in
    let inside : n < length c.loop-index.states = omega (arith, same) in
    let was = get_or c.loop-index.states n c.index-states-index.result in
    let found : slice_get c.args.mems.now n ≡ Some mem = element c.args.mems.now n mem (omega arith) c.index-mems-index.is in
    let there : slice_get c.loop-index.states n ≡ Some was = slice_get-get_or c.loop-index.states n c.index-states-index.result inside in (
      stepped_at (mem_goes c.args.first c.args.seed c.args.number c.args.event.now (valuation c.args.values.now)) no_mem c.args.mems.now c.args.states.now c.loop-index.states n mem was c.step.new.self found there c.step.ensures.value c.loop-index.invariant.0,
      states_at IsKeptByMem c.args.mems.now c.loop-index.states n mem was c.step.new.self found there c.step.ensures.state c.loop-index.invariant.1,
    )

pub returns-clause-count : goal.returns-clause-count
returns-clause-count c = c.loop-index.invariant.0.count

pub returns-clause-state : goal.returns-clause-state
returns-clause-state c = c.loop-index.invariant.1

pub returns-clause-value : goal.returns-clause-value
returns-clause-value c =
    stepped_all (mem_goes c.args.first c.args.seed c.args.number c.args.event.now (valuation c.args.values.now)) no_mem c.args.mems.now c.args.states.now c.loop-index.states c.loop-index.index c.requires.state.count (omega arith) c.loop-index.invariant.0
