use Rattle.std.proofs.Common.{arith}
use Rattle.net_same.proofs.Learning.{whole_read, none_read, none_taught, few_taught, items_taught}
use Rattle.net_same.proofs.nets.learn_all.Goals as goal

pub returns-in_default-rights : goal.returns-in_default-rights
returns-in_default-rights g c =
    let lefts = c.loop-lefts.lefts.now in
    let rights = c.loop-lefts.rights.now in
    let t = c.loop-lefts.tables in
    c.loop-lefts.invariant t (few_taught g.T.Wired.renamed g.T.Wired.nets c.old-item.result _ lefts rights t (whole_read lefts c.old-item.result (omega (arith, c.in-len1-up.len_at_least)) c.old-item.is) (none_read rights c.in_default-rights.len_below))

pub loop-lefts-preserved : goal.loop-lefts-preserved
loop-lefts-preserved g c =
    let lefts = c.loop-lefts.lefts.now in
    let rights = c.loop-lefts.rights.now in
    let a = c.old-item.result in
    let b = c.new-item.result in
    λ u rest.
    c.loop-lefts.invariant u
    (items_taught g.T.Wired.renamed g.T.Wired.nets lefts rights _ _ a b c.loop-lefts.tables c.learn.new.tables u (whole_read lefts a (omega (arith, c.in-len1-up.len_at_least)) c.old-item.is) (whole_read rights b (omega (arith, c.in-len1-up-rights.len_at_least)) c.new-item.is) c.learn.ensures rest)

pub returns : goal.returns
returns g c =
    let t = c.loop-lefts.tables in
    c.loop-lefts.invariant t (none_taught g.T.Wired.renamed g.T.Wired.nets c.loop-lefts.lefts.now c.loop-lefts.rights.now t (none_read c.loop-lefts.lefts.now c.in_default.len_below))
