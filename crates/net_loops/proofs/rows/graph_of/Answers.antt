use Rattle.std.proofs.Common.{length, ap, ◌∙◌}
use Rattle.net_loops.specs.Graphs.{rows_in}
use Rattle.net_loops.proofs.Linking.{drives_below, needs_below, graph_is, if_ok}
use Rattle.net_loops.proofs.rows.graph_of.Goals as goal

pub turned-requires-clause-within : goal.turned-requires-clause-within
turned-requires-clause-within c = drives_below c.args.nodes.now c.args.nets c.as_slice.result.now c.requires.within (c.as_slice.ensures.value ∙ c.in_ok-drives.ensures)

pub rows_in-requires : goal.rows_in-requires
rows_in-requires c = needs_below c.args.nodes.now c.args.nets (length c.as_slice-2.result.now) c.requires.within (ap length c.as_slice-2.ensures.value ∙ c.in_ok-drivers.ensures.len)

pub returns : goal.returns
returns c =
    if_ok c.rows_in.result _ _ (λ graph h. graph_is c.args.nodes.now c.as_slice.result.now c.in_ok-drivers.drivers.items graph.items (c.as_slice.ensures.value ∙ c.in_ok-drives.ensures) c.in_ok-drivers.ensures.turned (h ∙ ap (λ t. rows_in t c.args.nodes.now) c.as_slice-2.ensures.value)) c.rows_in.ensures
