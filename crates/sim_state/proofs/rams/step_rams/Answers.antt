use Rattle.std.proofs.Common.{◌≡◌, ◌<◌, length, get_or, Some, None, arith}
use Rattle.std.specs.Prelude.{slice_get}
use Rattle.std.proofs.lemmas.Option.{slice_get-get_or}
use Rattle.ram_step.specs.Moments.{valuation}
use Rattle.sim_state.specs.Cells.{IsKeptByRam, ram_goes}
use Rattle.sim_state.proofs.Listing.{element, stepped_none, stepped_at, stepped_all, states_at}
use Rattle.sim_state.proofs.rams.step_rams.Goals as goal

pub loop-index-init : goal.loop-index-init
loop-index-init c =
    (stepped_none (ram_goes c.args.first c.args.seed c.args.number c.args.event.now (valuation c.args.values.now)) None c.args.cells.now c.args.states.now, c.requires.state)

pub step_ram-requires : goal.step_ram-requires
step_ram-requires c =
    let n = c.loop-index.index in
    let cell = c.index-cells-index.result in
    let same = c.loop-index.invariant.1.count in
    let inside : n < length c.loop-index.states = omega (arith, same) in
    let was = get_or c.loop-index.states n c.index-states-index.result in
    c.loop-index.invariant.1.each n cell was
    (element c.args.cells.now n cell (omega arith) c.index-cells-index.is)
    (slice_get-get_or c.loop-index.states n c.index-states-index.result inside)

pub loop-index-preserved : goal.loop-index-preserved
loop-index-preserved c =
    let n = c.loop-index.index in
    let cell = c.index-cells-index.result in
    let same = c.loop-index.invariant.1.count in
    let inside : n < length c.loop-index.states = omega (arith, same) in
    let was = get_or c.loop-index.states n c.index-states-index.result in
    let found : slice_get c.args.cells.now n ≡ Some cell = element c.args.cells.now n cell (omega arith) c.index-cells-index.is in
    let there : slice_get c.loop-index.states n ≡ Some was = slice_get-get_or c.loop-index.states n c.index-states-index.result inside in (
      stepped_at (ram_goes c.args.first c.args.seed c.args.number c.args.event.now (valuation c.args.values.now)) None c.args.cells.now c.args.states.now c.loop-index.states n cell was c.step_ram.new.state found there c.step_ram.ensures.value c.loop-index.invariant.0,
      states_at IsKeptByRam c.args.cells.now c.loop-index.states n cell was c.step_ram.new.state found there c.step_ram.ensures.state c.loop-index.invariant.1,
    )

pub returns-clause-count : goal.returns-clause-count
returns-clause-count c = c.loop-index.invariant.0.count

pub returns-clause-state : goal.returns-clause-state
returns-clause-state c = c.loop-index.invariant.1

pub returns-clause-value : goal.returns-clause-value
returns-clause-value c =
    stepped_all (ram_goes c.args.first c.args.seed c.args.number c.args.event.now (valuation c.args.values.now)) None c.args.cells.now c.args.states.now c.loop-index.states c.loop-index.index c.requires.state.count (omega arith) c.loop-index.invariant.0
