use Rattle.std.proofs.Common.{arith}
use Rattle.net_same.specs.Nets.{sent}
use Rattle.net_same.proofs.Learning.{whole_read, first_met, first_same, more_same, false_true}
use Rattle.net_same.proofs.nets.are_renamed.Goals as goal

pub returns-then-not-is_renamed-clause-complete : goal.returns-then-not-is_renamed-clause-complete
returns-then-not-is_renamed-clause-complete g c =
    let lefts = c.loop-lefts.lefts.now in
    let rights = c.loop-lefts.rights.now in
    let a = c.old-item.result in
    let b = c.new-item.result in
    let old = whole_read lefts a (omega (arith, c.in-len1-up.len_at_least)) c.old-item.is in
    let new = whole_read rights b (omega (arith, c.in-len1-up-rights.len_at_least)) c.new-item.is in
    record {
      yes = λ f met e.
          let here = first_met g.T.Wired.renamed g.T.Wired.nets f c.args.tables.now lefts _ a old (c.loop-lefts.invariant.met f met) in
          let same = first_same g.T.Wired.renamed g.T.Wired.nets f lefts rights _ _ a b old new (c.loop-lefts.invariant.same f e) in
          absurd (false_true c.is_renamed.result c.if-not-is_renamed.true (c.is_renamed.ensures.complete.yes f here.0 same.0));
    }

pub loop-lefts-preserved : goal.loop-lefts-preserved
loop-lefts-preserved g c =
    let lefts = c.loop-lefts.lefts.now in
    let rights = c.loop-lefts.rights.now in
    let a = c.old-item.result in
    let b = c.new-item.result in
    let old = whole_read lefts a (omega (arith, c.in-len1-up.len_at_least)) c.old-item.is in
    let new = whole_read rights b (omega (arith, c.in-len1-up-rights.len_at_least)) c.new-item.is in
    record {
      sound = λ rest. c.loop-lefts.invariant.sound (more_same g.T.Wired.renamed g.T.Wired.nets (sent c.args.tables.now) lefts rights _ _ a b old new (c.is_renamed.ensures.sound c.if-not-is_renamed.false) rest);
      met = λ f met. (first_met g.T.Wired.renamed g.T.Wired.nets f c.args.tables.now lefts _ a old (c.loop-lefts.invariant.met f met)).1;
      same = λ f e. (first_same g.T.Wired.renamed g.T.Wired.nets f lefts rights _ _ a b old new (c.loop-lefts.invariant.same f e)).1;
    }
