use Rattle.std.proofs.Common.{length, ap, ◌∙◌, arith}
use Rattle.std.specs.Prelude.{◌==◌}
use Rattle.net_same.proofs.Learning.{whole_read, none_read, false_true}
use Rattle.net_same.proofs.Matching.{attrs_first, attrs_few, attrs_past}
use Rattle.net_same.proofs.wires.are_same_attrs.Goals as goal

pub returns-in_default-rights-clause-complete : goal.returns-in_default-rights-clause-complete
returns-in_default-rights-clause-complete c =
    let lefts = c.loop-lefts.lefts.now in
    let rights = c.loop-lefts.rights.now in
    λ e.
    absurd (attrs_few lefts rights _ c.old-item.result (whole_read lefts c.old-item.result (omega (arith, c.in-len1-up.len_at_least)) c.old-item.is) (none_read rights c.in_default-rights.len_below) c.loop-lefts.invariant.left (c.loop-lefts.invariant.complete e))

pub returns-then-not-is_alike-clause-complete : goal.returns-then-not-is_alike-clause-complete
returns-then-not-is_alike-clause-complete c =
    let lefts = c.loop-lefts.lefts.now in
    let rights = c.loop-lefts.rights.now in
    let a = c.old-item.result in
    let b = c.new-item.result in
    let old = whole_read lefts a (omega (arith, c.in-len1-up.len_at_least)) c.old-item.is in
    let new = whole_read rights b (omega (arith, c.in-len1-up-rights.len_at_least)) c.new-item.is in
    λ e.
    let h = attrs_first lefts rights _ _ a b old new c.loop-lefts.invariant.left c.loop-lefts.invariant.right (c.loop-lefts.invariant.complete e) in
    absurd (false_true c.is_alike.result c.if-not-is_alike.true (c.is_alike.ensures.complete h.0))

pub returns-clause-complete : goal.returns-clause-complete
returns-clause-complete c =
    λ e.
    let h = attrs_past c.loop-lefts.lefts.now c.loop-lefts.rights.now (none_read c.loop-lefts.lefts.now c.in_default.len_below) c.loop-lefts.invariant.right (c.loop-lefts.invariant.complete e) in
    c.is_empty.ensures ∙ ap (λ l. length l == 0) h
