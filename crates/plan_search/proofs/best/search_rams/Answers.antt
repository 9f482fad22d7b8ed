use Rattle.std.proofs.Common.{◌≡◌, refl, length}
use Rattle.std.specs.Prelude.{slice_get, Some}
use Rattle.std.proofs.lemmas.Option.{slice_get_read}
use Rattle.plan_search.specs.Rams.{at_ram}
use Rattle.plan_search.proofs.Listed.{fold_at_more}
use Rattle.plan_search.proofs.best.search_rams.Goals as goal

pub search_ram-requires-clause-limits : goal.search_ram-requires-clause-limits
search_ram-requires-clause-limits c =
    let s = slice_get_read c.as_slice-rams.result.now (length c.as_slice-rams.result.now) c.loop-ram.ram c.index-rams-ram.result refl c.loop-ram-test.true c.index-rams-ram.is in
    let there : slice_get c.args.lib.now.rams c.loop-ram.ram ≡ Some c.index-rams-ram.result = rw (← c.as_slice-rams.ensures) s in
    c.requires.limits.library.each c.loop-ram.ram c.index-rams-ram.result there

pub loop-ram-preserved : goal.loop-ram-preserved
loop-ram-preserved c =
    let s = slice_get_read c.as_slice-rams.result.now (length c.as_slice-rams.result.now) c.loop-ram.ram c.index-rams-ram.result refl c.loop-ram-test.true c.index-rams-ram.is in
    let there : slice_get c.args.lib.now.rams c.loop-ram.ram ≡ Some c.index-rams-ram.result = rw (← c.as_slice-rams.ensures) s in
    let more = fold_at_more (at_ram c.args.job.now c.args.style.now) c.args.best c.args.lib.now.rams c.loop-ram.ram c.index-rams-ram.result there in
    cc (c.in_ok-best.ensures, more)
