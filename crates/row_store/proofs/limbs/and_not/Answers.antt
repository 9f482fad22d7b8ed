use Rattle.std.proofs.Common.{arith, refl, get_or, bit_and, ◌∙◌, ◌<◌, ◌^◌, below_more}
use Rattle.std.proofs.lemmas.List.{length-set}
use Rattle.std.specs.Int.{bit_not, w64}
use Rattle.row_store.proofs.Lanes.{over_and_not, limbs_more}
use Rattle.row_store.proofs.limbs.and_not.Goals as goal

pub loop-at-preserved : goal.loop-at-preserved
loop-at-preserved g c = (
  length-set c.loop-at.out c.loop-at.at _ ∙ c.loop-at.invariant.0,
  limbs_more (λ j. bit_and (get_or c.args.a.now j 0) (bit_not w64 (get_or c.args.b.now j 0))) c.loop-at.out c.loop-at.at _ (omega (arith, c.loop-at.invariant.0)) refl c.loop-at.invariant.1,
  below_more (λ j. get_or c.args.b.now j 0 < 2 ^ 64) c.loop-at.at c.loop-at.invariant.2 (omega arith),
)

pub returns : goal.returns
returns g c = over_and_not g.row.LIMBS c.args.a.now c.args.b.now c.loop-at.out c.told-a c.told-b c.loop-at.invariant.0 (λ j h. c.loop-at.invariant.1 j (omega arith)) (λ j h. c.loop-at.invariant.2 j (omega arith))
