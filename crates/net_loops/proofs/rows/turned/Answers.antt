use Rattle.std.proofs.Common.{◌≡◌, Some, length, sym, ap, ◌∙◌, refl, arith}
use Rattle.std.specs.Prelude.{slice_get}
use Rattle.std.proofs.lemmas.Option.{slice_get_read}
use Rattle.net_loops.proofs.Turning.{turned_none, turned_more, turned_all}
use Rattle.net_loops.proofs.rows.turned.Goals as goal

pub loop-place-init : goal.loop-place-init
loop-place-init c = (c.in_ok-turned.ensures.len, turned_none c.args.rows.now c.in_ok-turned.turned.items c.in_ok-turned.ensures.empty)

pub put_at-requires : goal.put_at-requires
put_at-requires c = λ k n h.
    let at : slice_get c.args.rows.now c.loop-place.place ≡ Some c.index-rows-place.result = slice_get_read c.args.rows.now (length c.args.rows.now) c.loop-place.place c.index-rows-place.result refl (omega arith) c.index-rows-place.is in
    let low = c.requires.within c.loop-place.place n (c.index-rows-place.result, k, at, ap (λ l. slice_get l k) (sym c.as_slice.ensures) ∙ h) in
    omega (arith, low, c.loop-place.invariant.0)

pub loop-place-preserved : goal.loop-place-preserved
loop-place-preserved c =
    let at : slice_get c.args.rows.now c.loop-place.place ≡ Some c.index-rows-place.result = slice_get_read c.args.rows.now (length c.args.rows.now) c.loop-place.place c.index-rows-place.result refl (omega arith) c.index-rows-place.is in (
      c.in_ok-put_at.ensures.len ∙ c.loop-place.invariant.0,
      turned_more c.args.rows.now c.loop-place.turned.items c.put_at.new.rows.items c.loop-place.place _ c.index-rows-place.result c.as_slice.result.now refl at c.as_slice.ensures c.in_ok-put_at.ensures.leads c.loop-place.invariant.1,
    )

pub returns-clause-turned : goal.returns-clause-turned
returns-clause-turned c = turned_all c.args.rows.now c.loop-place.turned.items c.loop-place.place (omega arith) c.loop-place.invariant.1
