use Rattle.std.proofs.Common.{◌≡◌, refl, length}
use Rattle.std.specs.Prelude.{slice_get, Some}
use Rattle.std.proofs.lemmas.Option.{slice_get_read}
use Rattle.plan_search.proofs.Listed.{fold_at_more}
use Rattle.plain_plan.specs.Chosen.{plain_score}
use Rattle.plain_plan.specs.Steps.{at_variant}
use Rattle.plain_plan.proofs.choosing.try_ram.Goals as goal

pub try_variant-requires-clause-few : goal.try_variant-requires-clause-few
try_variant-requires-clause-few c =
    let s = slice_get_read c.as_slice-variants.result.now (length c.as_slice-variants.result.now) c.loop-at.at c.index-variants-at.result refl c.loop-at-test.true c.index-variants-at.is in
    let there : slice_get c.args.kind.now.variants c.loop-at.at ≡ Some c.index-variants-at.result = rw (← c.as_slice-variants.ensures) s in
    let limits = c.requires.ram.each c.loop-at.at c.index-variants-at.result there in
    limits.groups

pub loop-at-preserved : goal.loop-at-preserved
loop-at-preserved c =
    let s = slice_get_read c.as_slice-variants.result.now (length c.as_slice-variants.result.now) c.loop-at.at c.index-variants-at.result refl c.loop-at-test.true c.index-variants-at.is in
    let there : slice_get c.args.kind.now.variants c.loop-at.at ≡ Some c.index-variants-at.result = rw (← c.as_slice-variants.ensures) s in
    let more = fold_at_more (at_variant (plain_score c.args.search.now.job.now c.args.search.now.lib.now c.args.search.now.style.now) c.args.search.now.job.now.mem c.args.search.now.read.now c.args.ram) c.args.best c.args.kind.now.variants c.loop-at.at c.index-variants-at.result there in
    cc (c.in_ok-best.ensures, more)
