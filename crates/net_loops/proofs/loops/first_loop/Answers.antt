use Rattle.net_core.specs.Nodes.{nodes_of}
use Rattle.net_core.specs.Wiring.{IsCycleFault}
use Rattle.std.proofs.Common.{subst}
use Rattle.net_loops.specs.Loops.{nodes_in}
use Rattle.net_loops.proofs.Linking.{within_module, has_loop}
use Rattle.net_loops.proofs.loops.first_loop.Goals as goal

pub comb_order-requires-clause-within : goal.comb_order-requires-clause-within
comb_order-requires-clause-within c = within_module c.in_ok-module.module (nodes_in c.args.nodes.now) c.args.nets c.in_ok-module.ensures.nets c.in_ok-module.ensures.nodes c.requires.within

pub loop_of-requires-clause-looped : goal.loop_of-requires-clause-looped
loop_of-requires-clause-looped c =
    let m = c.in_ok-module.module in
    let fault = subst (IsCycleFault (nodes_of m)) c.in-Err-Loop.field-0-is c.in-Err-Loop.ensures.fault in
    has_loop m (nodes_in c.args.nodes.now) c.in-Err-Loop.field-0-0 c.in_ok-module.ensures.nodes fault.0
