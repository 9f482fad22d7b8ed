use Rattle.std.proofs.Common.{ap}
use Rattle.net_core.specs.declared.cells.Reg.{Reg}
use Rattle.net_same.proofs.Learning.{chain, listed}
use Rattle.net_same.proofs.cells.RegWired.learn.Goals as goal

pub returns : goal.returns
returns c = record {
  step = λ f g told e. chain (c.learn.ensures.step f g told (ap (λ (d : Reg). d.clock) e)) (chain (c.learn-2.ensures.step f g told (ap (λ (d : Reg). d.en) e)) (chain (c.learn-3.ensures.step f g told (ap (λ (d : Reg). d.arst) e)) (chain (c.learn-4.ensures.step f g told (ap (λ (d : Reg). d.srst) e)) (chain (c.learn-5.ensures.step f g told (ap (λ (d : Reg). d.d) e)) (listed c.args.self.now.q c.args.other.now.q (c.learn-6.ensures.step f g told (ap (λ (d : Reg). d.q) e)))))));
}
