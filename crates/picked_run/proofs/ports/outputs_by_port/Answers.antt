use Rattle.std.proofs.Common.{rules, ap, ◌∙◌}
use Rattle.std.proofs.lemmas.List.Sorted.{answers_always}
use Rattle.net_core.specs.Ports.{by_port}
use Rattle.net_core.proofs.Sorting.{wire_port, wires_by_port}
use Rattle.picked_run.proofs.ports.outputs_by_port.Goals as goal

pub returns : goal.returns
returns c =
    wires_by_port c.in_ok-outputs.outputs.items c.sort_by_key.new.self.items (c.in_ok-sort_by_key.ensures.sorted wire_port (answers_always _ _ _ (λ f a r g h. search rules)))
    (c.in_ok-sort_by_key.ensures.stable wire_port (answers_always _ _ _ (λ f a r g h. search rules)))
    ∙ ap by_port c.in_ok-outputs.ensures
