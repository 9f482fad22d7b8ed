use Rattle.std.proofs.Common.{◌≡◌, ℕ, ◌<◌, Option, Some, None, length, get_or, ap, sym, subst, ◌∙◌, arith}
use Rattle.std.specs.Prelude.{slice_get, Bool}
use Rattle.std.proofs.lemmas.List.{length-set}
use Rattle.std.proofs.lemmas.Option.{same_Some, slice_get-get_or}
use Rattle.net_core.specs.declared.mems.WrPort.{WrPort}
use Rattle.net_core.proofs.Basics.{get_below}
use Rattle.ram_step.specs.Moments.{valuation}
use Rattle.sim_cells.specs.Places.{base_hit}
use Rattle.sim_cells.proofs.Fitting.{write_wide}
use Rattle.sim_cells.proofs.ReadLists.{element, set_more}
use Rattle.sim_cells.proofs.Writing.{hits_listed}
use Rattle.sim_cells.proofs.hits.find_hits.Goals as goal

pub base_hit-requires-clause-wide : goal.base_hit-requires-clause-wide
base_hit-requires-clause-wide c =
    write_wide c.args.mem.now c.requires.fits c.loop-own.own c.index-writes-own.result
    (subst (λ l. slice_get l c.loop-own.own ≡ Some c.index-writes-own.result) c.as_slice-writes.ensures (element c.as_slice-writes.result.now c.loop-own.own c.index-writes-own.result c.loop-own-test.true c.index-writes-own.is))

pub base_hit-requires-clause-base : goal.base_hit-requires-clause-base
base_hit-requires-clause-base c = λ b e.
    let long = ap length c.as_slice-writes.ensures in
    c.requires.bases.small c.loop-own.own b (slice_get-get_or c.args.bases.now c.loop-own.own None (omega (arith, c.loop-own-test.true, c.requires.bases.count, long)) ∙ ap Some e)

pub loop-own-preserved : goal.loop-own-preserved
loop-own-preserved c =
    let n = c.loop-own.own in
    let hits = c.loop-own.hits in
    let inv = c.loop-own.invariant in
    let x = c.args.mem.now in
    let v = valuation c.args.values.now in
    let bases = c.args.bases.now in
    let w = c.index-writes-own.result in
    let long = ap length c.as_slice-writes.ensures in
    let inside : n < length hits = omega (arith, inv.0, c.loop-own-test.true, long) in
    let found : slice_get x.writes n ≡ Some w = subst (λ l. slice_get l n ≡ Some w) c.as_slice-writes.ensures (element c.as_slice-writes.result.now n w c.loop-own-test.true c.index-writes-own.is) in
    let P : ℕ → Option Bool → Type 0 = λ i h. (u : WrPort) → slice_get x.writes i ≡ Some u → h ≡ base_hit x v c.args.place u (get_or bases i None) in (
      length-set hits n c.base_hit.result ∙ inv.0,
      λ i h u at. set_more P hits n c.base_hit.result None inside (λ y there. c.base_hit.ensures ∙ ap (λ z. base_hit x v c.args.place z (get_or bases n None)) (same_Some w y (sym found ∙ there))) (λ j below y there. inv.1 j below y there) i h u at,
    )

pub returns : goal.returns
returns c =
    let inv = c.loop-own.invariant in
    let long = ap length c.as_slice-writes.ensures in
    hits_listed c.args.mem.now (valuation c.args.values.now) c.args.place c.args.mem.now.writes c.args.bases.now c.loop-own.hits c.requires.bases.count inv.0
    (λ i w found. let below = get_below c.args.mem.now.writes i w found in inv.1 i (omega (arith, below, long, c.loop-own-test.false)) w found)
