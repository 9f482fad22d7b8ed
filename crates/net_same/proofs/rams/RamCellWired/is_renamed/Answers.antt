use Rattle.std.proofs.Common.{ap}
use Rattle.net_core.specs.declared.rams.RamCell.{RamCell}
use Rattle.net_same.proofs.Learning.{both}
use Rattle.net_same.proofs.rams.RamCellWired.is_renamed.Goals as goal

pub returns-clause-complete : goal.returns-clause-complete
returns-clause-complete c = record {
  yes = λ f met e.
      both (both (both (both (c.is_alike.ensures.complete (ap (λ (d : RamCell). d.name) e)) (c.is_alike-2.ensures.complete (ap (λ (d : RamCell). d.ram) e))) (c.is_alike-3.ensures.complete (ap (λ (d : RamCell). d.variant) e))) (c.is_renamed.ensures.complete.yes f met (ap (λ (d : RamCell). d.slots) e))) (c.is_alike-4.ensures.complete (ap (λ (d : RamCell). d.init) e));
}
