use Rattle.std.proofs.Common.{ap}
use Rattle.net_core.specs.declared.rams.SlotUse.{SlotUse}
use Rattle.net_same.proofs.Learning.{chain, listed}
use Rattle.net_same.proofs.rams.SlotUseWired.learn.Goals as goal

pub returns : goal.returns
returns c = record {
  step = λ f g told e. chain (c.learn.ensures.step f g told (ap (λ (d : SlotUse). d.clock) e)) (chain (c.learn-2.ensures.step f g told (ap (λ (d : SlotUse). d.clken) e)) (chain (c.learn-3.ensures.step f g told (ap (λ (d : SlotUse). d.addr) e)) (chain (c.learn-4.ensures.step f g told (ap (λ (d : SlotUse). d.rden) e)) (chain (c.learn-5.ensures.step f g told (ap (λ (d : SlotUse). d.srst) e)) (chain (c.learn-6.ensures.step f g told (ap (λ (d : SlotUse). d.arst) e)) (chain (listed c.args.self.now.out c.args.other.now.out (c.learn-7.ensures.step f g told (ap (λ (d : SlotUse). d.out) e))) (chain (c.learn-8.ensures.step f g told (ap (λ (d : SlotUse). d.value) e)) (chain (c.learn-9.ensures.step f g told (ap (λ (d : SlotUse). d.wren) e)) (c.learn-10.ensures.step f g told (ap (λ (d : SlotUse). d.wrbe) e))))))))));
}
