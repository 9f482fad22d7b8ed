use Rattle.std.proofs.Common.{◌≡◌, refl, length}
use Rattle.std.specs.Prelude.{slice_get, Some, None}
use Rattle.std.proofs.lemmas.Option.{slice_get_read}
use Rattle.plan_search.proofs.Listed.{fold_at_more}
use Rattle.plain_plan.specs.Chosen.{plain_score}
use Rattle.plain_plan.specs.Steps.{at_ram}
use Rattle.plain_plan.proofs.choosing.try_rams.Goals as goal

pub try_ram-requires-clause-ram : goal.try_ram-requires-clause-ram
try_ram-requires-clause-ram c =
    let s = slice_get_read c.as_slice-rams.result.now (length c.as_slice-rams.result.now) c.loop-ram.ram c.index-rams-ram.result refl c.loop-ram-test.true c.index-rams-ram.is in
    let there : slice_get c.args.search.now.lib.now.rams c.loop-ram.ram ≡ Some c.index-rams-ram.result = rw (← c.as_slice-rams.ensures) s in
    c.requires.library.each c.loop-ram.ram c.index-rams-ram.result there

pub loop-ram-preserved : goal.loop-ram-preserved
loop-ram-preserved c =
    let s = slice_get_read c.as_slice-rams.result.now (length c.as_slice-rams.result.now) c.loop-ram.ram c.index-rams-ram.result refl c.loop-ram-test.true c.index-rams-ram.is in
    let there : slice_get c.args.search.now.lib.now.rams c.loop-ram.ram ≡ Some c.index-rams-ram.result = rw (← c.as_slice-rams.ensures) s in
    let more = fold_at_more (at_ram (plain_score c.args.search.now.job.now c.args.search.now.lib.now c.args.search.now.style.now) c.args.search.now.job.now.mem c.args.search.now.read.now) None c.args.search.now.lib.now.rams c.loop-ram.ram c.index-rams-ram.result there in
    cc (c.in_ok-best.ensures, more)
