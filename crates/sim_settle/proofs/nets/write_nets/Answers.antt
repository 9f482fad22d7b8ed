use Rattle.std.proofs.Common.{◌<◌, length, slice_index_or, false, sym, ◌∙◌}
use Rattle.std.proofs.lemmas.List.{length-set}
use Rattle.ram_step.specs.Moments.{valuation}
use Rattle.sim_settle.proofs.Writing.{bit_at_is, wrote_more, all_wrote, wrote_up, read_at, within_values}
use Rattle.sim_settle.proofs.nets.write_nets.Goals as goal

pub loop-place-preserved : goal.loop-place-preserved
loop-place-preserved c =
    let nets = c.args.nets.now in
    let bits = c.args.bits.now in
    let i = c.loop-place.place in
    let x = slice_index_or nets i 0 in
    let b = slice_index_or bits i false in
    let inv = c.loop-place.invariant in
    let here = read_at nets i c.loop-place-test.true in
    let inside : x < length c.loop-place.values = within_values (length c.args.values.now) (length c.loop-place.values) nets i x c.requires.nets here inv.0 in (
      length-set c.loop-place.values x b ∙ inv.0,
      wrote_more nets (valuation bits) (valuation c.args.values.now) c.loop-place.values i x b c.requires.apart here inside (sym (bit_at_is bits i)) inv.1,
    )

pub returns : goal.returns
returns c =
    all_wrote c.args.nets.now (valuation c.args.bits.now) (valuation c.args.values.now) (valuation c.loop-place.values)
    (wrote_up c.args.nets.now (valuation c.args.bits.now) (valuation c.args.values.now) (valuation c.loop-place.values) c.loop-place.place c.loop-place-test.false c.loop-place.invariant.1)
