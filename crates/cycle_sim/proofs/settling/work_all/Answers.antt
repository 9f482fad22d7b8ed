use Rattle.std.proofs.Common.{slice_index_or, arith}
use Rattle.sim_settle.specs.declared.places.NodePlace.TheVariants as place
use Rattle.sim_settle.proofs.Marking.{place_read}
use Rattle.cycle_sim.proofs.Placed.{work_more, work_ends, same_read}
use Rattle.cycle_sim.proofs.settling.work_all.Goals as goal

pub work_place-requires-clause-node : goal.work_place-requires-clause-node
work_place-requires-clause-node c = c.requires.work c.loop-at.at-index _ (place_read c.args.work.now c.loop-at.at-index c.loop-at-test.true)

pub work_place-requires-clause-picks : goal.work_place-requires-clause-picks
work_place-requires-clause-picks c = λ at p hp. let le = c.requires.picks at p hp in omega (arith, le, c.loop-at.invariant.1)

pub work_place-requires-clause-shown : goal.work_place-requires-clause-shown
work_place-requires-clause-shown c = λ at p hp. let le = c.requires.shown at p hp in omega (arith, le, c.loop-at.invariant.2)

pub loop-at-preserved : goal.loop-at-preserved
loop-at-preserved c =
    let inv = c.loop-at.invariant in (
      omega (arith, inv.0),
      omega (arith, inv.1),
      omega (arith, inv.2),
      work_more c.args.«module».now c.args.seed c.args.number c.args.state.now c.args.work.now c.loop-at.at-index (slice_index_or c.args.work.now c.loop-at.at-index (place.Comb 0)) _ _ _ c.loop-at-test.true (same_read c.args.work.now c.loop-at.at-index (place.Comb 0) _ c.loop-at-test.true) c.work_place.ensures inv.3,
    )

pub returns : goal.returns
returns c = work_ends c.args.«module».now c.args.seed c.args.number c.args.state.now c.args.work.now c.loop-at.at-index _ _ c.loop-at-test.false c.loop-at.invariant.3
