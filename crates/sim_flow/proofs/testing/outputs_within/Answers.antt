use Rattle.std.proofs.Common.{◌≡◌, ap, ◌∙◌}
use Rattle.std.specs.List.{list_all}
use Rattle.net_core.specs.Ports.{outputs_of}
use Rattle.net_live.specs.Driving.{bit_below}
use Rattle.sim_flow.proofs.Tested.{outputs_told}
use Rattle.sim_flow.proofs.testing.outputs_within.Goals as goal

pub returns : goal.returns
returns c =
    let m = c.args.«module».now in
    let e : c.as_slice.result.now ≡ outputs_of m = c.as_slice.ensures.value ∙ c.in_ok-bits.ensures in
    outputs_told m c.bits_within.result (c.bits_within.ensures ∙ ap (list_all (bit_below m.nets)) e)
