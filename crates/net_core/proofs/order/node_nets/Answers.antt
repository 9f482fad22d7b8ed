use Rattle.net_core.proofs.Wired.{gathered}
use Rattle.net_core.proofs.order.node_nets.Goals as goal

pub returns : goal.returns
returns c = gathered c.args.module.now _ _ _ _ _ _ _ _ _ c.new-nodes.ensures.items c.as_slice.ensures c.as_slice-2.ensures c.as_slice-3.ensures c.as_slice-4.ensures c.in_ok-push_combs.ensures c.in_ok-push_regs.ensures c.in_ok-push_mems.ensures c.in_ok-push_rams.ensures
