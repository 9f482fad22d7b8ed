use Rattle.std.proofs.Common.{◌≡◌, ℕ, ◌∙◌, ◌&&◌, ap, arith, length, nat_lt}
use Rattle.lib_core.specs.declared.library.Tri.TheVariants.{Zero}
use Rattle.lib_core.specs.Rams.{tri_at}
use Rattle.row_store.specs.Rows.{is_one, is_defined}
use Rattle.row_store.proofs.Tables.{none_yet, one_more, all_values, all_known, put_tri}
use Rattle.row_store.proofs.rows.packed.Goals as goal

pub loop-place-init : goal.loop-place-init
loop-place-init g c = (λ k. none_yet g.row.LIMBS k (is_one (tri_at c.args.bits.now k)), λ k. none_yet g.row.LIMBS k (is_defined (tri_at c.args.bits.now k)))

pub loop-place-preserved : goal.loop-place-preserved
loop-place-preserved g c =
    let here = λ (k : ℕ) (same : k ≡ c.loop-place.place). put_tri c.args.bits.now c.loop-place.place k Zero c.loop-place-test.true same in (
      λ k. one_more _ _ c.loop-place.place k _ _ (c.loop-place.invariant.0 k) (λ same. ap is_one (here k same)) (c.put_bit.ensures.values k),
      λ k. one_more _ _ c.loop-place.place k _ _ (c.loop-place.invariant.1 k) (λ same. ap is_defined (here k same)) (c.put_bit.ensures.known k),
    )

pub returns-clause-values : goal.returns-clause-values
returns-clause-values g c =
    let end : c.loop-place.place ≡ length c.args.bits.now = omega arith in
    λ k. all_values c.loop-place.values c.args.bits.now k (c.loop-place.invariant.0 k ∙ ap (λ n. nat_lt k n && is_one (tri_at c.args.bits.now k)) end)

pub returns-clause-known : goal.returns-clause-known
returns-clause-known g c =
    let end : c.loop-place.place ≡ length c.args.bits.now = omega arith in
    λ k. all_known c.loop-place.known c.args.bits.now k (c.loop-place.invariant.1 k ∙ ap (λ n. nat_lt k n && is_defined (tri_at c.args.bits.now k)) end)
