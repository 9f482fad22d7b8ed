use Rattle.std.proofs.Common.{ap}
use Rattle.net_core.specs.declared.mems.Mem.{Mem}
use Rattle.net_same.proofs.Learning.{chain}
use Rattle.net_same.proofs.mems.MemWired.learn.Goals as goal

pub returns : goal.returns
returns c = record {
  step = λ f g told e. chain (c.learn.ensures.step f g told (ap (λ (d : Mem). d.reads) e)) (c.learn-2.ensures.step f g told (ap (λ (d : Mem). d.writes) e));
}
