use Rattle.std.proofs.Common.{◌≡◌, true, sym, ◌∙◌}
use Rattle.net_core.specs.Ram.{slot_active}
use Rattle.net_core.proofs.Basics.{both}
use Rattle.ram_step.specs.Ports.{slot_of}
use Rattle.ram_step.specs.Moments.{inputs_alone, moment_of, valuation}
use Rattle.ram_step.proofs.HitBits.{active_hit}
use Rattle.ram_step.proofs.hits.hit_of.Goals as goal

pub returns-clause-bits : goal.returns-clause-bits
returns-clause-bits g c = λ word k.
    let s = slot_of c.args.port.now in
    let v = valuation c.args.values.now in
    let e = c.args.event.now in
    let active : slot_active (inputs_alone e) (moment_of e) v s ≡ true = both _ _ (sym c.at_edge.ensures ∙ c.if-not-at_edge.false) (sym c.is_enabled.ensures ∙ c.if-not-is_enabled.false) in
    active_hit (inputs_alone e) c.args.ports.now.variant (moment_of e) v s c.start-start.result c.hit_from.result.row word k c.hit_from.result.mask c.hit_from.result.value active c.start-start.ensures.bits c.hit_from.ensures.row (c.hit_from.ensures.mask k) (c.hit_from.ensures.value k)
