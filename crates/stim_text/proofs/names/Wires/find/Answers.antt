use Rattle.std.proofs.Common.{ap, ◌∙◌}
use Rattle.stim_text.specs.Inputs.{wire_at}
use Rattle.stim_text.proofs.Placing.{wire_found}
use Rattle.stim_text.proofs.names.Wires.find.Goals as goal

pub returns : goal.returns
returns c = c.copied.ensures ∙ c.get.ensures.value ∙ wire_found (λ k. k.now) c.args.name.now c.self.inside.table.entries ∙ ap (λ es. wire_at es c.args.name.now) c.self.view_is
