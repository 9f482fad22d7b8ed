use Rattle.std.proofs.Common.{◌≡◌, ◌<◌, Some, length, get_or, ◌∙◌, arith}
use Rattle.std.specs.Prelude.{slice_get}
use Rattle.std.proofs.lemmas.Option.{slice_get-get_or}
use Rattle.std.proofs.lemmas.List.{length-set}
use Rattle.net_core.proofs.Wired.{driver_all}
use Rattle.net_loops.proofs.Turning.{row_step}
use Rattle.net_loops.proofs.rows.put_at.Goals as goal

pub loop-place-preserved : goal.loop-place-preserved
loop-place-preserved c =
    let at = c.loop-place.place-index in
    let place = get_or c.args.places.now at 0 in
    let is_place : slice_get c.args.places.now at ≡ Some place = slice_get-get_or c.args.places.now at 0 (omega arith) in
    let low = c.requires at place is_place in
    let within : place < length c.loop-place.rows.items = omega (arith, low, c.loop-place.invariant.0) in (
      length-set c.loop-place.rows.items place c.push.new.self ∙ c.loop-place.invariant.0,
      row_step c.args.rows.now.items c.loop-place.rows.items c.index_mut.result.now c.push.new.self c.args.places.now c.args.number at place within c.index_mut.ensures.value c.in_ok-push.ensures.ok is_place c.loop-place.invariant.1,
    )

pub returns-clause-leads : goal.returns-clause-leads
returns-clause-leads c = driver_all c.args.rows.now.items c.loop-place.rows.items c.args.places.now c.args.number c.loop-place.place-index (omega arith) c.loop-place.invariant.1
