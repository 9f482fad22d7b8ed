use Rattle.std.proofs.Common.{◌≡◌, Some, None, length, refl, ap, subst, ◌∙◌, arith}
use Rattle.std.specs.Prelude.{slice_get}
use Rattle.std.proofs.lemmas.Option.{slice_get-get_or}
use Rattle.lib_core.specs.Rams.{tri_at}
use Rattle.ram_step.specs.Moments.{valuation}
use Rattle.sim_cells.specs.Writes.{won_at}
use Rattle.sim_cells.proofs.Fitting.{write_lanes}
use Rattle.sim_cells.proofs.ReadLists.{element}
use Rattle.sim_cells.proofs.Writing.{none_own, lane_start, lane_end}
use Rattle.sim_cells.proofs.hits.write_port.Goals as goal

pub loop-lane-init : goal.loop-lane-init
loop-lane-init c =
    let x = c.args.mem.now in
    let v = valuation c.args.values.now in
    let bases = c.args.bases.now in
    let own = c.args.own in
    let w = c.index-as_slice-own.result in
    let long = ap length c.as_slice.ensures in
    let found : slice_get x.writes own ≡ Some w = subst (λ l. slice_get l own ≡ Some w) c.as_slice.ensures (element c.as_slice.result.now own w (omega (arith, c.requires.own, long)) c.index-as_slice-own.is) in
    (refl, refl, λ p h. lane_start x v p bases own w c.in-Some.base (won_at x v p bases) (tri_at c.args.words.now p) c.requires.bases.count found c.in-Some.is)

pub overflow_add-base : goal.overflow_add-base
overflow_add-base c =
    let x = c.args.mem.now in
    let bases = c.args.bases.now in
    let own = c.args.own in
    let w = c.index-as_slice-own.result in
    let long = ap length c.as_slice.ensures in
    let found : slice_get x.writes own ≡ Some w = subst (λ l. slice_get l own ≡ Some w) c.as_slice.ensures (element c.as_slice.result.now own w (omega (arith, c.requires.own, long)) c.index-as_slice-own.is) in
    let lanes = write_lanes x c.requires.fits own w found in
    let count = c.requires.bases.count in
    let small = c.requires.bases.small own c.in-Some.base (slice_get-get_or bases own None (omega (arith, c.requires.own, count)) ∙ ap Some c.in-Some.is) in
    let end = ap length c.as_slice-lane-end.ensures in
    let below = c.loop-lane-test.true in
    omega (arith, lanes, small, end, below)

pub returns-in-None-clause-bits : goal.returns-in-None-clause-bits
returns-in-None-clause-bits c = λ p h.
    let x = c.args.mem.now in
    let v = valuation c.args.values.now in
    none_own x v p c.args.bases.now c.args.own (won_at x v p c.args.bases.now) (tri_at c.args.words.now p) c.requires.bases.count c.requires.own c.in-None.is

pub returns-after-loop-lane-clause-bits : goal.returns-after-loop-lane-clause-bits
returns-after-loop-lane-clause-bits c = λ p h.
    let x = c.args.mem.now in
    let v = valuation c.args.values.now in
    let bases = c.args.bases.now in
    let own = c.args.own in
    let w = c.index-as_slice-own.result in
    let long = ap length c.as_slice.ensures in
    let found : slice_get x.writes own ≡ Some w = subst (λ l. slice_get l own ≡ Some w) c.as_slice.ensures (element c.as_slice.result.now own w (omega (arith, c.requires.own, long)) c.index-as_slice-own.is) in
    let end = ap length c.as_slice-lane-end.ensures in
    let past = c.loop-lane-test.false in
    lane_end x v p bases own w c.in-Some.base c.loop-lane.lane (tri_at c.loop-lane.words p) (won_at x v p bases) (tri_at c.args.words.now p) c.requires.bases.count found c.in-Some.is (omega (arith, end, past)) (c.loop-lane.invariant.2 p h)
