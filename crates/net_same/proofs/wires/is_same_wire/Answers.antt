use Rattle.std.proofs.Common.{sym, ap, ◌∙◌}
use Rattle.net_same.specs.Same.{without_starts}
use Rattle.net_same.proofs.Learning.{both}
use Rattle.net_same.proofs.wires.is_same_wire.Goals as goal

pub returns-clause-complete : goal.returns-clause-complete
returns-clause-complete c = record {
  yes = λ f met s.
      let attrs = ap without_starts c.as_slice-2.ensures ∙ s.attrs ∙ ap without_starts (sym c.as_slice.ensures) in
      both (both (both (both (both (both (both (both (c.is_alike.ensures.complete s.name) (c.is_alike-2.ensures.complete s.port)) (c.is_alike-3.ensures.complete s.input)) (c.is_alike-4.ensures.complete s.output)) (c.is_alike-5.ensures.complete s.offset)) (c.is_alike-6.ensures.complete s.upto)) (c.is_alike-7.ensures.complete s.signed)) (c.is_renamed.ensures.complete.yes f met s.bits)) (c.are_same_attrs.ensures.complete attrs);
}
