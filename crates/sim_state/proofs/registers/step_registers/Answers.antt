use Rattle.std.proofs.Common.{◌≡◌, ◌+◌, ◌<◌, length, get_or, [], Some, ap, ◌∙◌, arith}
use Rattle.std.specs.Prelude.{slice_get}
use Rattle.std.proofs.lemmas.Option.{slice_get-get_or}
use Rattle.ram_step.specs.Moments.{valuation}
use Rattle.sim_cells.specs.KeptBits.{bit_lists}
use Rattle.picked_run.specs.States.{key_of}
use Rattle.sim_state.specs.Cells.{reg_goes}
use Rattle.sim_state.proofs.Listing.{element, stepped_none, stepped_all}
use Rattle.sim_state.proofs.Kept.{length_lists, list_at, kept_more, kept_states, length-stepped}
use Rattle.sim_state.proofs.registers.step_registers.Goals as goal

pub loop-index-init : goal.loop-index-init
loop-index-init c =
    (stepped_none (reg_goes c.args.first c.args.seed c.args.number c.args.event.now (valuation c.args.values.now)) [] c.args.regs.now (bit_lists c.args.kept.now), c.requires.kept)

pub step_kept-requires : goal.step_kept-requires
step_kept-requires c =
    let n = c.loop-index.index in
    let kept = c.loop-index.kept in
    let count = length_lists kept in
    let same = c.loop-index.invariant.1.count in
    let inside : n < length kept = omega (arith, count, same) in
    let was = get_or kept n c.index-kept-index.result in
    c.loop-index.invariant.1.each n c.index-regs-index.result was.items
    (element c.args.regs.now n c.index-regs-index.result (omega arith) c.index-regs-index.is)
    (list_at kept n was (slice_get-get_or kept n c.index-kept-index.result inside))

pub loop-index-preserved : goal.loop-index-preserved
loop-index-preserved c =
    let n = c.loop-index.index in
    let kept = c.loop-index.kept in
    let count = length_lists kept in
    let same = c.loop-index.invariant.1.count in
    let inside : n < length kept = omega (arith, count, same) in
    let reg = c.index-regs-index.result in
    let was = get_or kept n c.index-kept-index.result in
    let found : slice_get c.args.regs.now n ≡ Some reg = element c.args.regs.now n reg (omega arith) c.index-regs-index.is in
    let there : slice_get kept n ≡ Some was = slice_get-get_or kept n c.index-kept-index.result inside in
    let bits = c.step_kept.new.kept in (
      kept_more (reg_goes c.args.first c.args.seed c.args.number c.args.event.now (valuation c.args.values.now)) c.args.regs.now c.args.kept.now kept n reg was bits found there c.step_kept.ensures c.loop-index.invariant.0,
      kept_states c.args.regs.now kept n reg was bits found there (ap length c.step_kept.ensures ∙ length-stepped reg (valuation c.args.values.now) c.args.event.now (key_of c.args.seed c.args.number (c.args.first + n)) was.items) c.loop-index.invariant.1,
    )

pub returns-clause-count : goal.returns-clause-count
returns-clause-count c =
    let a = length_lists c.loop-index.kept in
    let b = length_lists c.args.kept.now in
    let same = c.loop-index.invariant.0.count in
    omega (arith, a, b, same)

pub returns-clause-kept : goal.returns-clause-kept
returns-clause-kept c = c.loop-index.invariant.1

pub returns-clause-value : goal.returns-clause-value
returns-clause-value c =
    stepped_all (reg_goes c.args.first c.args.seed c.args.number c.args.event.now (valuation c.args.values.now)) [] c.args.regs.now (bit_lists c.args.kept.now) (bit_lists c.loop-index.kept) c.loop-index.index c.requires.kept.count (omega arith) c.loop-index.invariant.0
