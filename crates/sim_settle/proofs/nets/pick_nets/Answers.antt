use Rattle.std.proofs.Common.{◌<◌, length, slice_index_or, ◌∙◌}
use Rattle.std.proofs.lemmas.List.{length-set}
use Rattle.lib_core.specs.Picks.{picked}
use Rattle.ram_step.specs.Moments.{valuation}
use Rattle.sim_settle.proofs.Writing.{filled_more, all_filled, filled_up, read_at, within_values}
use Rattle.sim_settle.proofs.nets.pick_nets.Goals as goal

pub loop-net-preserved : goal.loop-net-preserved
loop-net-preserved c =
    let nets = c.args.nets.now in
    let i = c.loop-net.net-index in
    let x = slice_index_or nets i 0 in
    let inv = c.loop-net.invariant in
    let here = read_at nets i c.loop-net-test.true in
    let inside : x < length c.loop-net.values = within_values (length c.args.values.now) (length c.loop-net.values) nets i x c.requires here inv.0 in (
      length-set c.loop-net.values x c.pick.result ∙ inv.0,
      filled_more nets (picked c.args.seed c.args.event 0) (valuation c.args.values.now) c.loop-net.values i x c.pick.result here inside c.pick.ensures inv.1,
    )

pub returns : goal.returns
returns c =
    all_filled c.args.nets.now (picked c.args.seed c.args.event 0) (valuation c.args.values.now) (valuation c.loop-net.values)
    (filled_up c.args.nets.now (picked c.args.seed c.args.event 0) (valuation c.args.values.now) (valuation c.loop-net.values) c.loop-net.net-index c.loop-net-test.false c.loop-net.invariant.1)
