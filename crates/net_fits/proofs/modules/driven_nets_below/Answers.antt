use Rattle.net_gather.specs.Gather.{gathered}
use Rattle.net_fits.proofs.NetsBelow as below
use Rattle.net_fits.proofs.modules.driven_nets_below.Goals as goal

pub returns : goal.returns
returns c = λ x m places count roots starts rams s are. below.driven_nets_below m (gathered x m.items) places count roots starts rams (c.resolved_in_order.ensures _ places count s.resolves) are
