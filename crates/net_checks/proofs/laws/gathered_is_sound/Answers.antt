use Rattle.std.proofs.Common.{◌≤◌, refl, sym, subst, arith}
use Rattle.net_wires.specs.Spans.{There, wire_bits}
use Rattle.net_gather.specs.Gather.{counts_before, gathered}
use Rattle.net_checks.proofs.laws.gathered_is_sound.Goals as goal

pub returns : goal.returns
returns c = λ x items names none.
    let there : There (wire_bits items) x.names = subst (There (wire_bits items)) (sym names) (c.wires_are_there.ensures items) in
    let order = c.places_in_order.ensures x (counts_before items) items there in
    let first : wire_bits items ≤ (gathered x items).places = omega (arith, order.1) in
    record {
      wires = refl;
      first = first;
      few = c.places_few.ensures x items none;
      pairs = c.pairs_within.ensures (gathered x items).places x.names items (λ name s e. omega (arith, there name s e, first));
      cells = c.places_within.ensures x (counts_before items) items there;
    }
