use Rattle.std.proofs.Common.{arith}
use Rattle.net_same.specs.Same.{IsAdded}
use Rattle.net_same.proofs.Learning.{whole_read, false_true}
use Rattle.net_same.proofs.Matching.{first_all}
use Rattle.net_same.proofs.wires.are_added.Goals as goal

pub returns-then-not-is_added-clause-complete : goal.returns-then-not-is_added-clause-complete
returns-then-not-is_added-clause-complete c =
    let rest = c.loop-rest.rest.now in
    let a = c.first-item.result in
    λ all.
    let h = first_all IsAdded rest _ a (whole_read rest a (omega (arith, c.in-len1-up.len_at_least)) c.first-item.is) (c.loop-rest.invariant.complete all) in
    absurd (false_true c.is_added.result c.if-not-is_added.true (c.is_added.ensures.complete h.0))
