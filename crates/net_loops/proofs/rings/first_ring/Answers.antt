use Rattle.std.proofs.Common.{arith, subst}
use Rattle.net_loops.specs.Graphs.{IsRingAt}
use Rattle.net_loops.proofs.Circles.{first_of_all, none_more}
use Rattle.net_loops.proofs.rings.first_ring.Goals as goal

pub returns-in-Some : goal.returns-in-Some
returns-in-Some c =
    let r = subst (IsRingAt c.args.graph.now c.loop-node.node) c.in-Some.is c.in_ok-ring.ensures in
    first_of_all c.args.graph.now c.loop-node.node c.in-Some.ring r.0 r.1 c.loop-node.invariant

pub loop-node-preserved : goal.loop-node-preserved
loop-node-preserved c =
    let r = subst (IsRingAt c.args.graph.now c.loop-node.node) c.in-None.is c.in_ok-ring.ensures in
    none_more c.args.graph.now c.loop-node.node r c.loop-node.invariant

pub returns : goal.returns
returns c = λ i low. c.loop-node.invariant i (omega (arith, low))
