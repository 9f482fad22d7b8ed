use Rattle.std.proofs.Common.{ap, ◌++◌}
use Rattle.net_core.specs.declared.cells.Comb.{Comb}
use Rattle.net_same.specs.Own.{bits_nets}
use Rattle.net_same.specs.Learning.{IsMet}
use Rattle.net_same.proofs.Learning.{both, listed_met, split}
use Rattle.net_same.proofs.cells.CombWired.is_renamed.Goals as goal

pub returns-clause-complete : goal.returns-clause-complete
returns-clause-complete c = record {
  yes = λ f met e.
      let x = c.args.self.now in
      let of_a = split (IsMet f c.args.tables.now) (bits_nets x.a) (bits_nets x.b ++ (bits_nets x.s ++ x.y)) met in
      let of_b = split (IsMet f c.args.tables.now) (bits_nets x.b) (bits_nets x.s ++ x.y) of_a.1 in
      let of_s = split (IsMet f c.args.tables.now) (bits_nets x.s) (x.y) of_b.1 in
      both (both (both (both (both (both (c.is_alike.ensures.complete (ap (λ (d : Comb). d.name) e)) (c.is_alike-2.ensures.complete (ap (λ (d : Comb). d.kind) e))) (c.is_alike-3.ensures.complete (ap (λ (d : Comb). d.signed) e))) (c.is_renamed.ensures.complete.yes f of_a.0 (ap (λ (d : Comb). d.a) e))) (c.is_renamed-2.ensures.complete.yes f of_b.0 (ap (λ (d : Comb). d.b) e))) (c.is_renamed-3.ensures.complete.yes f of_s.0 (ap (λ (d : Comb). d.s) e))) (c.is_renamed-4.ensures.complete.yes f (listed_met f c.args.tables.now x.y of_s.1) (ap (λ (d : Comb). d.y) e));
}
