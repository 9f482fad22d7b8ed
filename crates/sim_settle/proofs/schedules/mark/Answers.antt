use Rattle.std.proofs.Common.{◌<◌, length, slice_index_or, true, refl, ◌∙◌}
use Rattle.std.proofs.lemmas.List.{length-set}
use Rattle.net_core.specs.Values.{bit_at}
use Rattle.sim_settle.proofs.Writing.{filled_more, read_at, within_values}
use Rattle.sim_settle.proofs.schedules.mark.Goals as goal

pub loop-net-preserved : goal.loop-net-preserved
loop-net-preserved c =
    let nets = c.args.nets.now in
    let i = c.loop-net.net-index in
    let x = slice_index_or nets i 0 in
    let inv = c.loop-net.invariant in
    let here = read_at nets i c.loop-net-test.true in
    let inside : x < length c.loop-net.marks = within_values (length c.args.marks.now) (length c.loop-net.marks) nets i x c.requires here inv.0 in (
      length-set c.loop-net.marks x true ∙ inv.0,
      filled_more nets (λ n. true) (bit_at c.args.marks.now) c.loop-net.marks i x true here inside refl inv.1,
    )
