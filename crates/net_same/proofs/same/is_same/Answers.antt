use Rattle.std.proofs.Common.{sym, subst, rules}
use Rattle.net_same.specs.Own.{AreBelow, mentioned}
use Rattle.net_same.proofs.Matching.{fresh_right, so_many}
use Rattle.net_same.proofs.same.is_same.Goals as goal

pub returns-clause-complete : goal.returns-clause-complete
returns-clause-complete c =
    let old = c.args.old.now in
    let new = c.args.new.now in
    let t = c.in_ok-tables.tables in
    let forth = c.in_ok-tables.ensures.forth in
    let back = c.in_ok-tables.ensures.back in
    λ olds_own news_own s.
    let learned = (c.learn.ensures.step s.f s.g s.told s.wires s.cells).learns (subst (λ k. AreBelow k (mentioned old)) (sym (so_many t.forth.items old.nets _ forth)) olds_own.below) (subst (λ k. AreBelow k (mentioned new)) (sym (so_many t.back.items new.nets _ back)) news_own.below) in
    c.is_same_under.ensures.complete.yes s learned.met (learned.right (fresh_right s.f t old.nets new.nets _ forth back (search rules)))
