use Rattle.std.proofs.Common.{ap}
use Rattle.net_core.specs.declared.cells.Pin.{Pin}
use Rattle.net_same.proofs.Learning.{both}
use Rattle.net_same.proofs.cells.PinWired.is_renamed.Goals as goal

pub returns-clause-complete : goal.returns-clause-complete
returns-clause-complete c = record {
  yes = λ f met e.
      both (both (c.is_alike.ensures.complete (ap (λ (d : Pin). d.name) e)) (c.is_alike-2.ensures.complete (ap (λ (d : Pin). d.drives) e))) (c.is_renamed.ensures.complete.yes f met (ap (λ (d : Pin). d.bits) e));
}
