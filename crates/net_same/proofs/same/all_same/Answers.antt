use Rattle.std.proofs.Common.{length, ap, ◌∙◌, arith}
use Rattle.std.specs.Prelude.{◌==◌}
use Rattle.net_same.specs.Own.{NetsAreOwn}
use Rattle.net_same.proofs.Learning.{whole_read, none_read, false_true}
use Rattle.net_same.proofs.Matching.{first_all, all_first, all_joined, all_few, all_past}
use Rattle.net_same.proofs.same.all_same.Goals as goal

pub returns-in_default-rights-clause-complete : goal.returns-in_default-rights-clause-complete
returns-in_default-rights-clause-complete c =
    let lefts = c.loop-lefts.lefts.now in
    let rights = c.loop-lefts.rights.now in
    λ olds_own news_own s.
    absurd (all_few lefts rights _ c.old-item.result (whole_read lefts c.old-item.result (omega (arith, c.in-len1-up.len_at_least)) c.old-item.is) (none_read rights c.in_default-rights.len_below) (c.loop-lefts.invariant.same s))

pub returns-then-not-branch-clause-complete : goal.returns-then-not-branch-clause-complete
returns-then-not-branch-clause-complete c =
    let lefts = c.loop-lefts.lefts.now in
    let rights = c.loop-lefts.rights.now in
    let a = c.old-item.result in
    let b = c.new-item.result in
    let old = whole_read lefts a (omega (arith, c.in-len1-up.len_at_least)) c.old-item.is in
    let new = whole_read rights b (omega (arith, c.in-len1-up-rights.len_at_least)) c.new-item.is in
    λ olds_own news_own s.
    let one = first_all NetsAreOwn lefts _ a old (c.loop-lefts.invariant.olds_own olds_own) in
    let other = first_all NetsAreOwn rights _ b new (c.loop-lefts.invariant.news_own news_own) in
    let same = all_first lefts rights _ _ a b old new (c.loop-lefts.invariant.same s) in
    absurd (false_true c.in_ok-is_same.field-0 c.if-not-branch.true (c.in_ok-is_same.ensures.complete one.0 other.0 same.0))

pub loop-lefts-preserved : goal.loop-lefts-preserved
loop-lefts-preserved c =
    let lefts = c.loop-lefts.lefts.now in
    let rights = c.loop-lefts.rights.now in
    let a = c.old-item.result in
    let b = c.new-item.result in
    let old = whole_read lefts a (omega (arith, c.in-len1-up.len_at_least)) c.old-item.is in
    let new = whole_read rights b (omega (arith, c.in-len1-up-rights.len_at_least)) c.new-item.is in
    record {
      sound = λ rest. c.loop-lefts.invariant.sound (all_joined lefts rights _ _ a b old new (c.in_ok-is_same.ensures.sound c.if-not-branch.false) rest);
      same = λ s. (all_first lefts rights _ _ a b old new (c.loop-lefts.invariant.same s)).1;
      olds_own = λ own. (first_all NetsAreOwn lefts _ a old (c.loop-lefts.invariant.olds_own own)).1;
      news_own = λ own. (first_all NetsAreOwn rights _ b new (c.loop-lefts.invariant.news_own own)).1;
    }

pub returns-clause-complete : goal.returns-clause-complete
returns-clause-complete c =
    λ olds_own news_own s.
    let h = all_past c.loop-lefts.lefts.now c.loop-lefts.rights.now (none_read c.loop-lefts.lefts.now c.in_default.len_below) (c.loop-lefts.invariant.same s) in
    c.is_empty.ensures ∙ ap (λ l. length l == 0) h
