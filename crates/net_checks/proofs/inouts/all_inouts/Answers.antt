use Rattle.net_checks.proofs.Shown.{inouts_done, turn}
use Rattle.net_checks.proofs.inouts.all_inouts.Goals as goal

pub loop-rest-preserved : goal.loop-rest-preserved
loop-rest-preserved c =
    turn c.args.modules.now c.loop-rest.rest.now c.doc-item.result c.loop-rest.ports.items c.push.new.self.items c.in_ok-inouts_of.field-0 c.in-len1-up.len_at_least c.doc-item.is c.loop-rest.invariant c.in_ok-inouts_of.ensures c.in_ok-push.ensures.items

pub returns : goal.returns
returns c = inouts_done c.args.modules.now c.loop-rest.rest.now c.loop-rest.ports.items c.in_default.len_below c.loop-rest.invariant
