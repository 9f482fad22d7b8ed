use Rattle.net_build.proofs.Many.{built_done, built_turn, fails_here, fault_ends, fault_turn, new_turn}
use Rattle.net_build.proofs.building.build_modules.Goals as goal

pub returns-in-Err : goal.returns-in-Err
returns-in-Err c =
    let lib = c.args.around.now.library.now in
    let ms = c.args.around.now.modules.now in
    fault_ends lib ms c.args.modules.now c.doc-item.result c.in-Err.refusal c.refused.result c.in-Err.ensures c.refused.ensures
    (λ here. fails_here lib ms c.args.modules.now c.loop-rest.rest.now c.doc-item.result c.refused.result c.in-len1-up.len_at_least c.doc-item.is c.loop-rest.invariant.1 here)

pub loop-rest-preserved : goal.loop-rest-preserved
loop-rest-preserved c =
    let lib = c.args.around.now.library.now in
    let ms = c.args.around.now.modules.now in
    let rest = c.loop-rest.rest.now in
    let d = c.doc-item.result in
    let long = c.in-len1-up.len_at_least in (
      built_turn lib ms c.args.modules.now rest d c.loop-rest.built.items c.put.new.built.items c.in-Ok.«module» long c.doc-item.is c.loop-rest.invariant.0 c.in-Ok.ensures c.in_default-put.ensures.pushed,
      fault_turn lib ms c.args.modules.now rest d c.in-Ok.«module» long c.doc-item.is c.loop-rest.invariant.1 c.in-Ok.ensures,
      (new_turn rest d long c.doc-item.is c.loop-rest.invariant.2).1,
    )

pub returns : goal.returns
returns c = built_done c.args.around.now.library.now c.args.around.now.modules.now c.args.modules.now c.loop-rest.rest.now c.loop-rest.built.items c.in_default.len_below c.loop-rest.invariant.0
