use Rattle.std.proofs.Common.{arith}
use Rattle.net_same.specs.Nets.{sent}
use Rattle.net_same.proofs.Learning.{whole_read, none_read, false_true}
use Rattle.net_same.proofs.Matching.{wires_first, wires_joined, wires_few, wires_past, wires_met}
use Rattle.net_same.proofs.wires.wires_are_same.Goals as goal

pub returns-in_default-rights-clause-complete : goal.returns-in_default-rights-clause-complete
returns-in_default-rights-clause-complete c =
    let lefts = c.loop-lefts.lefts.now in
    let rights = c.loop-lefts.rights.now in
    record {
      yes = λ f met s.
          absurd (wires_few f lefts rights _ c.old-item.result (whole_read lefts c.old-item.result (omega (arith, c.in-len1-up.len_at_least)) c.old-item.is) (none_read rights c.in_default-rights.len_below) (c.loop-lefts.invariant.same f s));
    }

pub returns-then-not-is_same_wire-clause-complete : goal.returns-then-not-is_same_wire-clause-complete
returns-then-not-is_same_wire-clause-complete c =
    let lefts = c.loop-lefts.lefts.now in
    let rights = c.loop-lefts.rights.now in
    let a = c.old-item.result in
    let b = c.new-item.result in
    let old = whole_read lefts a (omega (arith, c.in-len1-up.len_at_least)) c.old-item.is in
    let new = whole_read rights b (omega (arith, c.in-len1-up-rights.len_at_least)) c.new-item.is in
    record {
      yes = λ f met s.
          let here = wires_met f c.args.tables.now lefts _ a old (c.loop-lefts.invariant.met f met) in
          let same = wires_first f lefts rights _ _ a b old new (c.loop-lefts.invariant.same f s) in
          absurd (false_true c.is_same_wire.result c.if-not-is_same_wire.true (c.is_same_wire.ensures.complete.yes f here.0 same.0));
    }

pub loop-lefts-preserved : goal.loop-lefts-preserved
loop-lefts-preserved c =
    let lefts = c.loop-lefts.lefts.now in
    let rights = c.loop-lefts.rights.now in
    let a = c.old-item.result in
    let b = c.new-item.result in
    let old = whole_read lefts a (omega (arith, c.in-len1-up.len_at_least)) c.old-item.is in
    let new = whole_read rights b (omega (arith, c.in-len1-up-rights.len_at_least)) c.new-item.is in
    record {
      sound = λ rest. c.loop-lefts.invariant.sound (wires_joined (sent c.args.tables.now) lefts rights _ _ a b old new (c.is_same_wire.ensures.sound c.if-not-is_same_wire.false) rest);
      met = λ f met. (wires_met f c.args.tables.now lefts _ a old (c.loop-lefts.invariant.met f met)).1;
      same = λ f s. (wires_first f lefts rights _ _ a b old new (c.loop-lefts.invariant.same f s)).1;
    }

pub returns-clause-complete : goal.returns-clause-complete
returns-clause-complete c = record {
  yes = λ f met s.
      c.are_added.ensures.complete (wires_past f c.loop-lefts.lefts.now c.loop-lefts.rights.now (none_read c.loop-lefts.lefts.now c.in_default.len_below) (c.loop-lefts.invariant.same f s));
}
