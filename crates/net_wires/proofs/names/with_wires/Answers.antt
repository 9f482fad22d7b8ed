use Rattle.std.proofs.Common.{ap, ◌∙◌}
use Rattle.net_wires.specs.Spans.{look}
use Rattle.net_wires.proofs.Looking.{other_turn, wire_turn}
use Rattle.net_wires.proofs.names.with_wires.Goals as goal

pub add-requires : goal.add-requires
add-requires c =
    ap (look c.loop-rest.names) c.as_slice.ensures
    ∙ (wire_turn c.loop-rest.names _ _ c.loop-rest.base c.in-Wire.wire c.item-item.result c.loop-rest.rest.now c.in-len1-up.len_at_least c.item-item.is c.in-Wire.is c.loop-rest.invariant).0

pub loop-rest-preserved : goal.loop-rest-preserved
loop-rest-preserved c = other_turn c.loop-rest.names _ _ c.loop-rest.base c.item-item.result c.loop-rest.rest.now c.in-len1-up.len_at_least c.item-item.is c.in_default-item.not-Wire c.loop-rest.invariant
