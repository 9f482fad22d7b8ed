use Rattle.std.proofs.Common.{ap}
use Rattle.net_core.specs.declared.cells.Carried.{Carried}
use Rattle.net_same.proofs.cells.CarriedWired.learn.Goals as goal

pub returns : goal.returns
returns c = record {
  step = λ f g told e. c.learn.ensures.step f g told (ap (λ (d : Carried). d.pins) e);
}
