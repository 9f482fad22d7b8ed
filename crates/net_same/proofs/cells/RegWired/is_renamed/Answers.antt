use Rattle.std.proofs.Common.{ap, ◌++◌}
use Rattle.net_core.specs.declared.cells.Reg.{Reg}
use Rattle.net_same.specs.Own.{bit_nets, bits_nets, clock_nets}
use Rattle.net_same.specs.Learning.{IsMet}
use Rattle.net_same.proofs.Learning.{both, listed_met, split}
use Rattle.net_same.proofs.cells.RegWired.is_renamed.Goals as goal

pub returns-clause-complete : goal.returns-clause-complete
returns-clause-complete c = record {
  yes = λ f met e.
      let x = c.args.self.now in
      let of_clock = split (IsMet f c.args.tables.now) (clock_nets x.clock) (bit_nets x.en ++ (bit_nets x.arst ++ (bit_nets x.srst ++ (bits_nets x.d ++ x.q)))) met in
      let of_en = split (IsMet f c.args.tables.now) (bit_nets x.en) (bit_nets x.arst ++ (bit_nets x.srst ++ (bits_nets x.d ++ x.q))) of_clock.1 in
      let of_arst = split (IsMet f c.args.tables.now) (bit_nets x.arst) (bit_nets x.srst ++ (bits_nets x.d ++ x.q)) of_en.1 in
      let of_srst = split (IsMet f c.args.tables.now) (bit_nets x.srst) (bits_nets x.d ++ x.q) of_arst.1 in
      let of_d = split (IsMet f c.args.tables.now) (bits_nets x.d) (x.q) of_srst.1 in
      both (both (both (both (both (both (both (both (both (both (both (both (both (c.is_alike.ensures.complete (ap (λ (d : Reg). d.name) e)) (c.is_alike-2.ensures.complete (ap (λ (d : Reg). d.kind) e))) (c.is_renamed.ensures.complete.yes f of_clock.0 (ap (λ (d : Reg). d.clock) e))) (c.is_renamed-2.ensures.complete.yes f of_en.0 (ap (λ (d : Reg). d.en) e))) (c.is_alike-3.ensures.complete (ap (λ (d : Reg). d.en_high) e))) (c.is_renamed-3.ensures.complete.yes f of_arst.0 (ap (λ (d : Reg). d.arst) e))) (c.is_alike-4.ensures.complete (ap (λ (d : Reg). d.arst_high) e))) (c.is_alike-5.ensures.complete (ap (λ (d : Reg). d.arst_value) e))) (c.is_renamed-4.ensures.complete.yes f of_srst.0 (ap (λ (d : Reg). d.srst) e))) (c.is_alike-6.ensures.complete (ap (λ (d : Reg). d.srst_high) e))) (c.is_alike-7.ensures.complete (ap (λ (d : Reg). d.srst_value) e))) (c.is_renamed-5.ensures.complete.yes f of_d.0 (ap (λ (d : Reg). d.d) e))) (c.is_renamed-6.ensures.complete.yes f (listed_met f c.args.tables.now x.q of_d.1) (ap (λ (d : Reg). d.q) e))) (c.is_alike-8.ensures.complete (ap (λ (d : Reg). d.init) e));
}
