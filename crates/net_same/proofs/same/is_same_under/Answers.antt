use Rattle.std.proofs.Common.{subst}
use Rattle.std.specs.List.{flat_map}
use Rattle.net_same.specs.Own.{wire_nets, cells_nets}
use Rattle.net_same.specs.Learning.{IsMet, AreWiresSeen}
use Rattle.net_same.proofs.Learning.{both, split}
use Rattle.net_same.proofs.same.is_same_under.Goals as goal

pub returns-clause-complete : goal.returns-clause-complete
returns-clause-complete c =
    let t = c.args.tables.now in
    let old = c.args.old.now in
    let new = c.args.new.now in
    let wires = subst (λ l. AreWiresSeen l new.wires t c.wires_are_same.result) c.as_slice.ensures (subst (λ l. AreWiresSeen c.as_slice.result.now l t c.wires_are_same.result) c.as_slice-2.ensures c.wires_are_same.ensures.complete) in
    record {
      yes = λ s met right.
          let parts = split (IsMet s.f t) (flat_map wire_nets old.wires) (cells_nets old) met in
          both (both (both (c.heads_are_same.ensures.complete s.heads) (c.are_told.ensures.complete s.f right)) (wires.yes s.f parts.0 s.wires)) (c.cells_are_same.ensures.complete.yes s.f parts.1 s.cells);
    }
