use Rattle.std.proofs.Common.{ap, ◌++◌}
use Rattle.net_core.specs.declared.mems.RdPort.{RdPort}
use Rattle.net_same.specs.Own.{bit_nets, bits_nets, read_clock_nets}
use Rattle.net_same.specs.Learning.{IsMet}
use Rattle.net_same.proofs.Learning.{both, listed_met, split}
use Rattle.net_same.proofs.mems.RdPortWired.is_renamed.Goals as goal

pub returns-clause-complete : goal.returns-clause-complete
returns-clause-complete c = record {
  yes = λ f met e.
      let x = c.args.self.now in
      let of_clock = split (IsMet f c.args.tables.now) (read_clock_nets x.clock) (bit_nets x.en ++ (bits_nets x.addr ++ (x.out ++ (bit_nets x.arst ++ bit_nets x.srst)))) met in
      let of_en = split (IsMet f c.args.tables.now) (bit_nets x.en) (bits_nets x.addr ++ (x.out ++ (bit_nets x.arst ++ bit_nets x.srst))) of_clock.1 in
      let of_addr = split (IsMet f c.args.tables.now) (bits_nets x.addr) (x.out ++ (bit_nets x.arst ++ bit_nets x.srst)) of_en.1 in
      let of_out = split (IsMet f c.args.tables.now) x.out (bit_nets x.arst ++ bit_nets x.srst) of_addr.1 in
      let of_arst = split (IsMet f c.args.tables.now) (bit_nets x.arst) (bit_nets x.srst) of_out.1 in
      both (both (both (both (both (both (both (both (both (both (both (both (c.is_alike.ensures.complete (ap (λ (d : RdPort). d.wide) e)) (c.is_renamed.ensures.complete.yes f of_clock.0 (ap (λ (d : RdPort). d.clock) e))) (c.is_renamed-2.ensures.complete.yes f of_en.0 (ap (λ (d : RdPort). d.en) e))) (c.is_renamed-3.ensures.complete.yes f of_addr.0 (ap (λ (d : RdPort). d.addr) e))) (c.is_renamed-4.ensures.complete.yes f (listed_met f c.args.tables.now x.out of_out.0) (ap (λ (d : RdPort). d.out) e))) (c.is_renamed-5.ensures.complete.yes f of_arst.0 (ap (λ (d : RdPort). d.arst) e))) (c.is_renamed-6.ensures.complete.yes f of_arst.1 (ap (λ (d : RdPort). d.srst) e))) (c.is_alike-2.ensures.complete (ap (λ (d : RdPort). d.arst_value) e))) (c.is_alike-3.ensures.complete (ap (λ (d : RdPort). d.srst_value) e))) (c.is_alike-4.ensures.complete (ap (λ (d : RdPort). d.init_value) e))) (c.is_alike-5.ensures.complete (ap (λ (d : RdPort). d.ce_over_srst) e))) (c.is_alike-6.ensures.complete (ap (λ (d : RdPort). d.trans) e))) (c.is_alike-7.ensures.complete (ap (λ (d : RdPort). d.coll) e));
}
