use Rattle.std.proofs.Common.{ap, ◌∙◌}
use Rattle.stim_text.specs.Inputs.{pin_at}
use Rattle.stim_text.proofs.Placing.{pin_found}
use Rattle.stim_text.proofs.names.Pins.find.Goals as goal

pub returns : goal.returns
returns c = c.copied.ensures ∙ c.get.ensures.value ∙ pin_found (λ k. k.0.now) (λ k. k.1.now) c.args.cell.now c.args.pin.now c.self.inside.table.entries ∙ ap (λ es. pin_at es c.args.cell.now c.args.pin.now) c.self.view_is
