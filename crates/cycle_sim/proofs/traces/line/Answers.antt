use Rattle.std.proofs.Common.{slice_index_or, ◌∙◌}
use Rattle.net_core.specs.declared.bits.Bit.TheVariants.{Zero as Low}
use Rattle.ram_step.specs.Moments.{valuation}
use Rattle.cycle_sim.proofs.Lines.{values_more, values_all, bit_below}
use Rattle.cycle_sim.proofs.Placed.{same_read}
use Rattle.cycle_sim.proofs.traces.line.Goals as goal

pub output-requires-clause-net : goal.output-requires-clause-net
output-requires-clause-net c =
    let bits = c.args.bits.now in
    let i = c.loop-bit.bit-index in
    bit_below bits i (slice_index_or bits i Low) c.args.sim.now.unit.nets c.loop-bit-test.true (same_read bits i Low _ c.loop-bit-test.true) c.requires.nets

pub loop-bit-preserved : goal.loop-bit-preserved
loop-bit-preserved c = λ values e.
    let bits = c.args.bits.now in
    let i = c.loop-bit.bit-index in
    values_more (valuation values) bits i (slice_index_or bits i Low) c.loop-bit.line.items c.push.new.self.items c.output.result c.loop-bit-test.true (same_read bits i Low _ c.loop-bit-test.true) (c.loop-bit.invariant values e) c.in_ok-push.ensures.items (c.output.ensures values e)

pub returns : goal.returns
returns c = λ values e. c.from_vec.ensures ∙ values_all (valuation values) c.args.bits.now c.loop-bit.bit-index c.loop-bit.line.items c.loop-bit-test.false (c.loop-bit.invariant values e)
