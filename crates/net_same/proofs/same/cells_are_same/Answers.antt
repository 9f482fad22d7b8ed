use Rattle.std.proofs.Common.{◌++◌}
use Rattle.std.specs.List.{flat_map}
use Rattle.net_same.specs.Own.{mem_nets, comb_nets, reg_nets, ram_nets, carried_nets}
use Rattle.net_same.specs.Learning.{IsMet}
use Rattle.net_same.proofs.Learning.{both, split}
use Rattle.net_same.proofs.same.cells_are_same.Goals as goal

pub returns-clause-complete : goal.returns-clause-complete
returns-clause-complete c = record {
  yes = λ f met s.
      let x = c.args.old.now in
      let carried = flat_map carried_nets x.carried in
      let rams = flat_map ram_nets x.rams ++ carried in
      let regs = flat_map reg_nets x.regs ++ rams in
      let of_mems = split (IsMet f c.args.tables.now) (flat_map mem_nets x.mems) (flat_map comb_nets x.combs ++ regs) met in
      let of_combs = split (IsMet f c.args.tables.now) (flat_map comb_nets x.combs) regs of_mems.1 in
      let of_regs = split (IsMet f c.args.tables.now) (flat_map reg_nets x.regs) rams of_combs.1 in
      let of_rams = split (IsMet f c.args.tables.now) (flat_map ram_nets x.rams) carried of_regs.1 in
      both (both (both (both (c.is_renamed.ensures.complete.yes f of_mems.0 s.mems) (c.is_renamed-2.ensures.complete.yes f of_combs.0 s.combs)) (c.is_renamed-3.ensures.complete.yes f of_regs.0 s.regs)) (c.is_renamed-4.ensures.complete.yes f of_rams.0 s.rams)) (c.is_renamed-5.ensures.complete.yes f of_rams.1 s.carried);
}
