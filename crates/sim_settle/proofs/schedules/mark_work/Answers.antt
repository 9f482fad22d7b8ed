use Rattle.std.proofs.Common.{slice_index_or, ◌∙◌, arith}
use Rattle.sim_settle.specs.declared.places.NodePlace.TheVariants as place
use Rattle.sim_settle.proofs.Marking.{place_read, nets_below, apart_from}
use Rattle.sim_settle.proofs.schedules.mark_work.Goals as goal

pub nets_at-requires : goal.nets_at-requires
nets_at-requires c = c.requires.work c.loop-at.at-index _ (place_read c.args.work.now c.loop-at.at-index c.loop-at-test.true)

pub mark-requires : goal.mark-requires
mark-requires c = λ k n hk.
    let at = slice_index_or c.args.work.now c.loop-at.at-index (place.Comb 0) in
    let has = c.requires.work c.loop-at.at-index at (place_read c.args.work.now c.loop-at.at-index c.loop-at-test.true) in
    let lt = nets_below c.args.«module».now c.requires.nets at has.0 has.1 c.nets_at.result.now (c.nets_at.ensures has.0 has.1) k n hk in
    omega (arith, lt, c.requires.marks, c.loop-at.invariant.0)

pub loop-at-preserved : goal.loop-at-preserved
loop-at-preserved c =
    let at = slice_index_or c.args.work.now c.loop-at.at-index (place.Comb 0) in
    let has = c.requires.work c.loop-at.at-index at (place_read c.args.work.now c.loop-at.at-index c.loop-at-test.true) in
    let inv = c.loop-at.invariant in (
      omega (arith, inv.0),
      λ n undriven. c.mark.ensures n (apart_from c.args.«module».now n undriven at has.0 has.1 c.nets_at.result.now (c.nets_at.ensures has.0 has.1)) ∙ inv.1 n undriven,
    )
