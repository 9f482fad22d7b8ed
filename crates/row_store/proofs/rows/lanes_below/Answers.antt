use Rattle.std.proofs.Common.{◌≡◌, ◌∙◌, ap, arith, nat_lt}
use Rattle.row_store.proofs.Tables.{no_lane, below_more}
use Rattle.row_store.proofs.rows.lanes_below.Goals as goal

pub loop-place-init : goal.loop-place-init
loop-place-init g c = λ k. no_lane g.row.LIMBS k

pub loop-place-preserved : goal.loop-place-preserved
loop-place-preserved g c = λ k. below_more _ _ c.loop-place.place k (c.loop-place.invariant k) (c.set_bit.ensures k)

pub returns : goal.returns
returns g c =
    let end : c.loop-place.place ≡ c.args.width = omega arith in
    λ k. c.loop-place.invariant k ∙ ap (nat_lt k) end
