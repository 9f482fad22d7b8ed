use Rattle.std.proofs.Common.{ap, ◌++◌}
use Rattle.net_core.specs.declared.mems.WrPort.{WrPort}
use Rattle.net_same.specs.Own.{bits_nets, clock_nets}
use Rattle.net_same.specs.Learning.{IsMet}
use Rattle.net_same.proofs.Learning.{both, split}
use Rattle.net_same.proofs.mems.WrPortWired.is_renamed.Goals as goal

pub returns-clause-complete : goal.returns-clause-complete
returns-clause-complete c = record {
  yes = λ f met e.
      let x = c.args.self.now in
      let of_clock = split (IsMet f c.args.tables.now) (clock_nets x.clock) (bits_nets x.en ++ (bits_nets x.addr ++ bits_nets x.value)) met in
      let of_en = split (IsMet f c.args.tables.now) (bits_nets x.en) (bits_nets x.addr ++ bits_nets x.value) of_clock.1 in
      let of_addr = split (IsMet f c.args.tables.now) (bits_nets x.addr) (bits_nets x.value) of_en.1 in
      both (both (both (both (both (c.is_alike.ensures.complete (ap (λ (d : WrPort). d.wide) e)) (c.is_renamed.ensures.complete.yes f of_clock.0 (ap (λ (d : WrPort). d.clock) e))) (c.is_renamed-2.ensures.complete.yes f of_en.0 (ap (λ (d : WrPort). d.en) e))) (c.is_renamed-3.ensures.complete.yes f of_addr.0 (ap (λ (d : WrPort). d.addr) e))) (c.is_renamed-4.ensures.complete.yes f of_addr.1 (ap (λ (d : WrPort). d.value) e))) (c.is_alike-2.ensures.complete (ap (λ (d : WrPort). d.prio) e));
}
