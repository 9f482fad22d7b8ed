use Rattle.std.proofs.Common.{ap}
use Rattle.net_core.specs.declared.cells.Carried.{Carried}
use Rattle.net_same.proofs.Learning.{both}
use Rattle.net_same.proofs.cells.CarriedWired.is_renamed.Goals as goal

pub returns-clause-complete : goal.returns-clause-complete
returns-clause-complete c = record {
  yes = λ f met e.
      both (both (both (both (c.is_alike.ensures.complete (ap (λ (d : Carried). d.name) e)) (c.is_alike-2.ensures.complete (ap (λ (d : Carried). d.kind) e))) (c.is_alike-3.ensures.complete (ap (λ (d : Carried). d.attrs) e))) (c.is_alike-4.ensures.complete (ap (λ (d : Carried). d.params) e))) (c.is_renamed.ensures.complete.yes f met (ap (λ (d : Carried). d.pins) e));
}
