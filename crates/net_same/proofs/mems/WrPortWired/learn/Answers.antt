use Rattle.std.proofs.Common.{ap}
use Rattle.net_core.specs.declared.mems.WrPort.{WrPort}
use Rattle.net_same.proofs.Learning.{chain}
use Rattle.net_same.proofs.mems.WrPortWired.learn.Goals as goal

pub returns : goal.returns
returns c = record {
  step = λ f g told e. chain (c.learn.ensures.step f g told (ap (λ (d : WrPort). d.clock) e)) (chain (c.learn-2.ensures.step f g told (ap (λ (d : WrPort). d.en) e)) (chain (c.learn-3.ensures.step f g told (ap (λ (d : WrPort). d.addr) e)) (c.learn-4.ensures.step f g told (ap (λ (d : WrPort). d.value) e))));
}
