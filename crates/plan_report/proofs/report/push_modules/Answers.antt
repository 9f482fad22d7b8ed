use Rattle.std.proofs.Common.{◌++◌}
use Rattle.plan_report.specs.Report.{modules_text}
use Rattle.plan_report.proofs.Fitting.{tail_is, modules_step, fit_step}
use Rattle.plan_report.proofs.report.push_modules.Goals as goal

pub loop-rest-preserved : goal.loop-rest-preserved
loop-rest-preserved c =
    let lib = c.args.lib.now in
    let whole = c.args.text.now.items ++ modules_text lib c.args.modules.now c.args.plans.now in
    let is = tail_is c.loop-rest.rest.now c.module-item.result c.in-len1-up.len_at_least c.module-item.is in (
      modules_step lib c.loop-rest.rest.now _ c.module-item.result c.loop-rest.left.now c.past-left.result.now c.loop-rest.text.items c.push_mems.new.text.items whole c.as_slice.result.now c.as_slice-mems.result.now is c.as_slice.ensures c.as_slice-mems.ensures c.past-left.ensures c.in_ok-push_mems.ensures c.loop-rest.invariant.0,
      fit_step lib c.loop-rest.rest.now _ c.module-item.result c.loop-rest.left.now c.past-left.result.now c.as_slice-mems.result.now is c.as_slice-mems.ensures c.past-left.ensures c.loop-rest.invariant.1,
    )
