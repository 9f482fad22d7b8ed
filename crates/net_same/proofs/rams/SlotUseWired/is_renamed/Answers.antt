use Rattle.std.proofs.Common.{ap, ◌++◌}
use Rattle.net_core.specs.declared.rams.SlotUse.{SlotUse}
use Rattle.net_same.specs.Own.{bit_nets, bits_nets, clock_nets}
use Rattle.net_same.specs.Learning.{IsMet}
use Rattle.net_same.proofs.Learning.{both, listed_met, split}
use Rattle.net_same.proofs.rams.SlotUseWired.is_renamed.Goals as goal

pub returns-clause-complete : goal.returns-clause-complete
returns-clause-complete c = record {
  yes = λ f met e.
      let x = c.args.self.now in
      let of_clock = split (IsMet f c.args.tables.now) (clock_nets x.clock) (bit_nets x.clken ++ (bits_nets x.addr ++ (bit_nets x.rden ++ (bit_nets x.srst ++ (bit_nets x.arst ++ (x.out ++ (bits_nets x.value ++ (bits_nets x.wren ++ bits_nets x.wrbe)))))))) met in
      let of_clken = split (IsMet f c.args.tables.now) (bit_nets x.clken) (bits_nets x.addr ++ (bit_nets x.rden ++ (bit_nets x.srst ++ (bit_nets x.arst ++ (x.out ++ (bits_nets x.value ++ (bits_nets x.wren ++ bits_nets x.wrbe))))))) of_clock.1 in
      let of_addr = split (IsMet f c.args.tables.now) (bits_nets x.addr) (bit_nets x.rden ++ (bit_nets x.srst ++ (bit_nets x.arst ++ (x.out ++ (bits_nets x.value ++ (bits_nets x.wren ++ bits_nets x.wrbe)))))) of_clken.1 in
      let of_rden = split (IsMet f c.args.tables.now) (bit_nets x.rden) (bit_nets x.srst ++ (bit_nets x.arst ++ (x.out ++ (bits_nets x.value ++ (bits_nets x.wren ++ bits_nets x.wrbe))))) of_addr.1 in
      let of_srst = split (IsMet f c.args.tables.now) (bit_nets x.srst) (bit_nets x.arst ++ (x.out ++ (bits_nets x.value ++ (bits_nets x.wren ++ bits_nets x.wrbe)))) of_rden.1 in
      let of_arst = split (IsMet f c.args.tables.now) (bit_nets x.arst) (x.out ++ (bits_nets x.value ++ (bits_nets x.wren ++ bits_nets x.wrbe))) of_srst.1 in
      let of_out = split (IsMet f c.args.tables.now) x.out (bits_nets x.value ++ (bits_nets x.wren ++ bits_nets x.wrbe)) of_arst.1 in
      let of_value = split (IsMet f c.args.tables.now) (bits_nets x.value) (bits_nets x.wren ++ bits_nets x.wrbe) of_out.1 in
      let of_wren = split (IsMet f c.args.tables.now) (bits_nets x.wren) (bits_nets x.wrbe) of_value.1 in
      both (both (both (both (both (both (both (both (both (both (both (both (both (both (both (c.is_alike.ensures.complete (ap (λ (d : SlotUse). d.used) e)) (c.is_alike-2.ensures.complete (ap (λ (d : SlotUse). d.reads_now) e))) (c.is_alike-3.ensures.complete (ap (λ (d : SlotUse). d.level) e))) (c.is_renamed.ensures.complete.yes f of_clock.0 (ap (λ (d : SlotUse). d.clock) e))) (c.is_renamed-2.ensures.complete.yes f of_clken.0 (ap (λ (d : SlotUse). d.clken) e))) (c.is_renamed-3.ensures.complete.yes f of_addr.0 (ap (λ (d : SlotUse). d.addr) e))) (c.is_renamed-4.ensures.complete.yes f of_rden.0 (ap (λ (d : SlotUse). d.rden) e))) (c.is_renamed-5.ensures.complete.yes f of_srst.0 (ap (λ (d : SlotUse). d.srst) e))) (c.is_renamed-6.ensures.complete.yes f of_arst.0 (ap (λ (d : SlotUse). d.arst) e))) (c.is_renamed-7.ensures.complete.yes f (listed_met f c.args.tables.now x.out of_out.0) (ap (λ (d : SlotUse). d.out) e))) (c.is_renamed-8.ensures.complete.yes f of_value.0 (ap (λ (d : SlotUse). d.value) e))) (c.is_renamed-9.ensures.complete.yes f of_wren.0 (ap (λ (d : SlotUse). d.wren) e))) (c.is_renamed-10.ensures.complete.yes f of_wren.1 (ap (λ (d : SlotUse). d.wrbe) e))) (c.is_alike-4.ensures.complete (ap (λ (d : SlotUse). d.srst_value) e))) (c.is_alike-5.ensures.complete (ap (λ (d : SlotUse). d.arst_value) e))) (c.is_alike-6.ensures.complete (ap (λ (d : SlotUse). d.init_value) e));
}
