use Rattle.std.proofs.Common.{◌≡◌, sym, ap, ◌∙◌, arith, map, take, ◌∷◌, [], ◌++◌}
use Rattle.plan_par.specs.Plans.{plan_of}
use Rattle.plan_par.proofs.Parts.{within_at, map_take_more}
use Rattle.plan_par.proofs.planning.plan_each.Goals as goal

pub plan_one-requires : goal.plan_one-requires
plan_one-requires g c = within_at c.args.jobs.now c.args.lib.now c.loop-job.job-index c.job-item.result c.requires.within c.loop-job-test.true c.job-item.is

pub loop-job-preserved : goal.loop-job-preserved
loop-job-preserved g c =
    let m = map_take_more (plan_of c.args.lib.now) c.args.jobs.now c.loop-job.job-index c.job-item.result c.loop-job-test.true c.job-item.is in
    let e = c.in_ok-push.ensures.items in
    let p = c.in_ok-plan_one.ensures in
    let inv : c.loop-job.plans.items ≡ map (plan_of c.args.lib.now) (take c.loop-job.job-index c.args.jobs.now) = c.loop-job.invariant.1 in
    (omega arith, e ∙ (ap (λ z. c.loop-job.plans.items ++ z ∷ []) p ∙ (ap (λ z. z ++ plan_of c.args.lib.now c.job-item.result ∷ []) inv ∙ sym m)))
