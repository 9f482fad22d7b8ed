use Rattle.std.proofs.Common.{◌≡◌, refl, length}
use Rattle.std.specs.Prelude.{slice_get, Some}
use Rattle.std.proofs.lemmas.Option.{slice_get_read}
use Rattle.plan_search.specs.Rams.{at_variant_number}
use Rattle.plan_search.proofs.Listed.{fold_at_more}
use Rattle.plan_search.proofs.best.search_variants.Goals as goal

pub search_variant-requires-clause-limits : goal.search_variant-requires-clause-limits
search_variant-requires-clause-limits c =
    let s = slice_get_read c.as_slice-variants.result.now (length c.as_slice-variants.result.now) c.loop-at.at c.index-variants-at.result refl c.loop-at-test.true c.index-variants-at.is in
    let there : slice_get c.args.kind.now.variants c.loop-at.at ≡ Some c.index-variants-at.result = rw (← c.as_slice-variants.ensures) s in
    c.requires.limits.each c.loop-at.at c.index-variants-at.result there

pub loop-at-preserved : goal.loop-at-preserved
loop-at-preserved c =
    let s = slice_get_read c.as_slice-variants.result.now (length c.as_slice-variants.result.now) c.loop-at.at c.index-variants-at.result refl c.loop-at-test.true c.index-variants-at.is in
    let there : slice_get c.args.kind.now.variants c.loop-at.at ≡ Some c.index-variants-at.result = rw (← c.as_slice-variants.ensures) s in
    let more = fold_at_more (at_variant_number c.args.job.now c.args.ram) c.args.best c.args.kind.now.variants c.loop-at.at c.index-variants-at.result there in
    cc (c.in_ok-best.ensures, more)
