use Rattle.std.proofs.Common.{ap, sym, length, ◌∙◌}
use Rattle.ram_step.proofs.SlotsAt.{length-slots_of}
use Rattle.ram_step.proofs.ports.Ports.len.Goals as goal

pub returns : goal.returns
returns g c = ap length c.as_slice.ensures ∙ sym (length-slots_of c.self.inside.variant.now c.self.inside.cell.now c.self.invariant.3) ∙ ap (λ l. length l.all) c.self.view_is
