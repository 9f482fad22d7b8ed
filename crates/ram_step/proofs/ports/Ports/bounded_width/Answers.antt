use Rattle.std.proofs.Common.{◌≤◌, ap, sym, subst, ◌∙◌}
use Rattle.lib_core.specs.Rams.{width_at, last_width}
use Rattle.ram_step.proofs.Places.{widest}
use Rattle.ram_step.proofs.ports.Ports.bounded_width.Goals as goal

pub returns-clause-value : goal.returns-clause-value
returns-clause-value g c = c.width_at.ensures ∙ ap (λ ws. width_at ws c.args.port.now.pins.now.level) c.as_slice.ensures ∙ ap (λ l. width_at l.variant.widths c.args.port.now.pins.now.level) c.self.view_is

pub returns-clause-bound : goal.returns-clause-bound
returns-clause-bound g c =
    let x = c.self.inside.variant.now in
    subst (λ l. c.width_at.result ≤ last_width l.variant) c.self.view_is
    (subst (λ n. n ≤ last_width x) (sym (c.width_at.ensures ∙ ap (λ ws. width_at ws c.args.port.now.pins.now.level) c.as_slice.ensures)) (widest x.widths c.self.invariant.2.widths c.args.port.now.pins.now.level))
