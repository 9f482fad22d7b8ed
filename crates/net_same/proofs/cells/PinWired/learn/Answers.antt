use Rattle.std.proofs.Common.{ap}
use Rattle.net_core.specs.declared.cells.Pin.{Pin}
use Rattle.net_same.proofs.cells.PinWired.learn.Goals as goal

pub returns : goal.returns
returns c = record {
  step = λ f g told e. c.learn.ensures.step f g told (ap (λ (d : Pin). d.bits) e);
}
