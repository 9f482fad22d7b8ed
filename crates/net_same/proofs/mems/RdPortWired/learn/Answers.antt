use Rattle.std.proofs.Common.{ap}
use Rattle.net_core.specs.declared.mems.RdPort.{RdPort}
use Rattle.net_same.proofs.Learning.{chain, listed}
use Rattle.net_same.proofs.mems.RdPortWired.learn.Goals as goal

pub returns : goal.returns
returns c = record {
  step = λ f g told e. chain (c.learn.ensures.step f g told (ap (λ (d : RdPort). d.clock) e)) (chain (c.learn-2.ensures.step f g told (ap (λ (d : RdPort). d.en) e)) (chain (c.learn-3.ensures.step f g told (ap (λ (d : RdPort). d.addr) e)) (chain (listed c.args.self.now.out c.args.other.now.out (c.learn-4.ensures.step f g told (ap (λ (d : RdPort). d.out) e))) (chain (c.learn-5.ensures.step f g told (ap (λ (d : RdPort). d.arst) e)) (c.learn-6.ensures.step f g told (ap (λ (d : RdPort). d.srst) e))))));
}
