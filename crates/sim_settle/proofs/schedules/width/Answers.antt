use Rattle.std.proofs.Common.{slice_index_or, arith}
use Rattle.net_core.proofs.Basics.{get_below}
use Rattle.sim_settle.specs.declared.places.NodePlace.TheVariants as place
use Rattle.sim_settle.proofs.Marking.{place_read, reaches_more}
use Rattle.sim_settle.proofs.schedules.width.Goals as goal

pub nets_at-requires : goal.nets_at-requires
nets_at-requires c = c.requires c.loop-at.at-index _ (place_read c.args.work.now c.loop-at.at-index c.loop-at-test.true)

pub loop-at-preserved : goal.loop-at-preserved
loop-at-preserved c =
    let i = c.loop-at.at-index in
    let at = slice_index_or c.args.work.now i (place.Comb 0) in
    reaches_more c.args.«module».now c.args.work.now i c.loop-at.width c.wider-width.result at c.nets_at.result.now (place_read c.args.work.now i c.loop-at-test.true) c.nets_at.ensures c.wider-width.ensures.width c.wider-width.ensures.nets c.loop-at.invariant

pub returns : goal.returns
returns c = λ a at p ha hp.
    let lt = get_below c.args.work.now a at ha in
    c.loop-at.invariant a at p (omega (arith, lt)) ha hp
