use Rattle.std.proofs.Common.{ap}
use Rattle.net_core.specs.declared.rams.RamCell.{RamCell}
use Rattle.net_same.proofs.rams.RamCellWired.learn.Goals as goal

pub returns : goal.returns
returns c = record {
  step = λ f g told e. c.learn.ensures.step f g told (ap (λ (d : RamCell). d.slots) e);
}
