use Rattle.std.proofs.Common.{◌<◌, length, ap, sym, ◌∙◌, arith}
use Rattle.net_core.specs.Values.{value_of}
use Rattle.ram_step.specs.Moments.{valuation}
use Rattle.cycle_sim.specs.Views.{SimView}
use Rattle.cycle_sim.proofs.Viewing.{values_are, output_is}
use Rattle.cycle_sim.proofs.sim.Sim.output.Goals as goal

pub returns-in-Net : goal.returns-in-Net
returns-in-Net c = λ values e.
    let i = c.self.inside in
    let items = i.nets.values.items in
    let same = values_are i.settled items values (ap (λ (s : SimView). s.values) c.self.view_is ∙ e) in
    let unit = ap (λ (s : SimView). s.unit.nets) c.self.view_is in
    let long = c.self.invariant.values in
    let below = c.requires.net c.in-Net.net c.in-Net.is in
    let inside : c.in-Net.net < length items = omega (arith, unit, long, below) in
    output_is items values c.in-Net.net c.index.result.now inside c.index.ensures same ∙ sym (ap (value_of (valuation values)) c.in-Net.is)
