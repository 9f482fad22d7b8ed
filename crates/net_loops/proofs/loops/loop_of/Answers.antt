use Rattle.std.proofs.Common.{sym, subst}
use Rattle.net_loops.specs.Graphs.{IsGraphOf}
use Rattle.net_loops.specs.Loops.{nodes_in}
use Rattle.net_loops.proofs.Linking.{list_closed, loop_answer, if_ok}
use Rattle.net_loops.proofs.loops.loop_of.Goals as goal

pub first_ring-requires-clause-closed : goal.first_ring-requires-clause-closed
first_ring-requires-clause-closed c =
    let is = subst (IsGraphOf (nodes_in c.args.nodes.now)) (sym c.as_slice.ensures.value) c.in_ok-graph.ensures in
    list_closed (nodes_in c.args.nodes.now) c.as_slice.result.now is

pub returns : goal.returns
returns c =
    let is = subst (IsGraphOf (nodes_in c.args.nodes.now)) (sym c.as_slice.ensures.value) c.in_ok-graph.ensures in
    if_ok c.first_ring.result _ _ (λ found h. loop_answer (nodes_in c.args.nodes.now) c.as_slice.result.now is found c.requires.looped h) c.first_ring.ensures
