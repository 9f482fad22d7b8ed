use Rattle.std.proofs.Common.{ap, ◌∙◌}
use Rattle.lib_core.specs.Rams.{width_at}
use Rattle.ram_step.proofs.ports.Ports.width.Goals as goal

pub returns : goal.returns
returns g c = c.width_at.ensures ∙ ap (λ ws. width_at ws c.args.port.now.pins.now.level) c.as_slice.ensures ∙ ap (λ l. width_at l.variant.widths c.args.port.now.pins.now.level) c.self.view_is
