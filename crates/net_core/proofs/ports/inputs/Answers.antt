use Rattle.net_core.proofs.Netlists.{inputs_made}
use Rattle.net_core.proofs.ports.inputs.Goals as goal

pub returns : goal.returns
returns c =
    inputs_made c.args.module.now _ _ _ _ _ _ _ _ c.as_slice.ensures c.in_ok-wires.ensures c.as_slice-2.ensures.value c.new-nets.ensures.items c.in_ok-push_wires.ensures c.as_slice-3.ensures c.in_ok-push_cells.ensures c.from_vec.ensures
