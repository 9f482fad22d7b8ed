use Rattle.net_gather.proofs.FacesShown.{outputs_done, turn}
use Rattle.net_gather.proofs.faces.all_outputs.Goals as goal

pub loop-rest-preserved : goal.loop-rest-preserved
loop-rest-preserved c =
    turn c.args.modules.now c.loop-rest.rest.now c.doc-item.result c.loop-rest.outputs.items c.push.new.self.items c.in_ok-outputs_of.field-0 c.in-len1-up.len_at_least c.doc-item.is c.loop-rest.invariant c.in_ok-outputs_of.ensures c.in_ok-push.ensures.items

pub returns : goal.returns
returns c = outputs_done c.args.modules.now c.loop-rest.rest.now c.loop-rest.outputs.items c.in_default.len_below c.loop-rest.invariant
