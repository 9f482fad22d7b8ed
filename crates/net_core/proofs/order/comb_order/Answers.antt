use Rattle.std.proofs.Common.{◌≡◌, length, map, sym, ap, ◌∙◌}
use Rattle.net_core.specs.Nodes.{nodes_of}
use Rattle.net_core.specs.Wiring.{rows, drivers_of}
use Rattle.net_core.proofs.Wired.{drives_within, needs_within, graph_closed, order_nodes, ring_nodes, if_ok, if_err}
use Rattle.net_core.proofs.order.comb_order.Goals as goal

pub drivers-requires-clause-within : goal.drivers-requires-clause-within
drivers-requires-clause-within c = drives_within c.args.module.now c.as_slice.result.now (c.as_slice.ensures.value ∙ c.in_ok-nodes.ensures) c.requires.within

pub graph-requires : goal.graph-requires
graph-requires c = needs_within c.args.module.now c.as_slice-3.result.now (length c.as_slice-2.result.now) (c.as_slice-3.ensures.value ∙ c.in_ok-nodes.ensures) c.requires.within (ap length c.as_slice-2.ensures.value ∙ c.in_ok-table.ensures.len)

pub order_of-requires-clause-closed : goal.order_of-requires-clause-closed
order_of-requires-clause-closed c =
    let nodes = c.as_slice.result.now in
    let is_graph : c.as_slice-4.result.now ≡ map (λ p. drivers_of (rows c.in_ok-table.table.items) p.needs) nodes =
    c.as_slice-4.ensures.value ∙ c.in_ok-graph.ensures ∙ ap (λ t. map (λ p. drivers_of (rows t) p.needs) c.as_slice-3.result.now) c.as_slice-2.ensures.value
    ∙ ap (map (λ p. drivers_of (rows c.in_ok-table.table.items) p.needs)) (c.as_slice-3.ensures.value ∙ sym c.as_slice.ensures.value) in
    graph_closed (nodes_of c.args.module.now) nodes (rows c.in_ok-table.table.items) c.as_slice-4.result.now (c.as_slice.ensures.value ∙ c.in_ok-nodes.ensures) c.in_ok-table.ensures.tells is_graph

pub returns-clause-order : goal.returns-clause-order
returns-clause-order c =
    let nodes = c.as_slice.result.now in
    let is_graph : c.as_slice-4.result.now ≡ map (λ p. drivers_of (rows c.in_ok-table.table.items) p.needs) nodes =
    c.as_slice-4.ensures.value ∙ c.in_ok-graph.ensures ∙ ap (λ t. map (λ p. drivers_of (rows t) p.needs) c.as_slice-3.result.now) c.as_slice-2.ensures.value
    ∙ ap (map (λ p. drivers_of (rows c.in_ok-table.table.items) p.needs)) (c.as_slice-3.ensures.value ∙ sym c.as_slice.ensures.value) in
    if_ok c.order_of.result _ _ (order_nodes (nodes_of c.args.module.now) nodes (rows c.in_ok-table.table.items) c.as_slice-4.result.now (c.as_slice.ensures.value ∙ c.in_ok-nodes.ensures) c.in_ok-table.ensures.tells is_graph) c.order_of.ensures.order

pub returns-clause-fault : goal.returns-clause-fault
returns-clause-fault c =
    let nodes = c.as_slice.result.now in
    let is_graph : c.as_slice-4.result.now ≡ map (λ p. drivers_of (rows c.in_ok-table.table.items) p.needs) nodes =
    c.as_slice-4.ensures.value ∙ c.in_ok-graph.ensures ∙ ap (λ t. map (λ p. drivers_of (rows t) p.needs) c.as_slice-3.result.now) c.as_slice-2.ensures.value
    ∙ ap (map (λ p. drivers_of (rows c.in_ok-table.table.items) p.needs)) (c.as_slice-3.ensures.value ∙ sym c.as_slice.ensures.value) in
    if_err c.order_of.result _ _ (ring_nodes (nodes_of c.args.module.now) nodes (rows c.in_ok-table.table.items) c.as_slice-4.result.now (c.as_slice.ensures.value ∙ c.in_ok-nodes.ensures) c.in_ok-table.ensures.tells is_graph) c.order_of.ensures.fault
