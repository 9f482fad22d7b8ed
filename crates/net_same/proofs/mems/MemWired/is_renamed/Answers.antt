use Rattle.std.proofs.Common.{ap}
use Rattle.std.specs.List.{flat_map}
use Rattle.net_core.specs.declared.mems.Mem.{Mem}
use Rattle.net_same.specs.Own.{read_nets, write_nets}
use Rattle.net_same.specs.Learning.{IsMet}
use Rattle.net_same.proofs.Learning.{both, split}
use Rattle.net_same.proofs.mems.MemWired.is_renamed.Goals as goal

pub returns-clause-complete : goal.returns-clause-complete
returns-clause-complete c = record {
  yes = λ f met e.
      let x = c.args.self.now in
      let of_reads = split (IsMet f c.args.tables.now) (flat_map read_nets x.reads) (flat_map write_nets x.writes) met in
      both (both (both (both (both (both (both (both (both (both (c.is_alike.ensures.complete (ap (λ (d : Mem). d.name) e)) (c.is_alike-2.ensures.complete (ap (λ (d : Mem). d.attrs) e))) (c.is_alike-3.ensures.complete (ap (λ (d : Mem). d.width) e))) (c.is_alike-4.ensures.complete (ap (λ (d : Mem). d.size) e))) (c.is_alike-5.ensures.complete (ap (λ (d : Mem). d.offset) e))) (c.is_alike-6.ensures.complete (ap (λ (d : Mem). d.abits) e))) (c.is_alike-7.ensures.complete (ap (λ (d : Mem). d.init) e))) (c.is_renamed.ensures.complete.yes f of_reads.0 (ap (λ (d : Mem). d.reads) e))) (c.is_renamed-2.ensures.complete.yes f of_reads.1 (ap (λ (d : Mem). d.writes) e))) (c.is_alike-8.ensures.complete (ap (λ (d : Mem). d.origin) e))) (c.is_alike-9.ensures.complete (ap (λ (d : Mem). d.place) e));
}
