use Rattle.std.proofs.Common.{ap}
use Rattle.net_core.specs.declared.cells.Comb.{Comb}
use Rattle.net_same.proofs.Learning.{chain, listed}
use Rattle.net_same.proofs.cells.CombWired.learn.Goals as goal

pub returns : goal.returns
returns c = record {
  step = λ f g told e. chain (c.learn.ensures.step f g told (ap (λ (d : Comb). d.a) e)) (chain (c.learn-2.ensures.step f g told (ap (λ (d : Comb). d.b) e)) (chain (c.learn-3.ensures.step f g told (ap (λ (d : Comb). d.s) e)) (listed c.args.self.now.y c.args.other.now.y (c.learn-4.ensures.step f g told (ap (λ (d : Comb). d.y) e)))));
}
