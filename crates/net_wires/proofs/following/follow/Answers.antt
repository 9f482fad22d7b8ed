use Rattle.std.proofs.Common.{List, subst, ap, ◌∙◌, length, replicate, false}
use Rattle.net_wires.specs.declared.link.Link.{Link}
use Rattle.net_wires.specs.Doubling.{mark_all, Tied}
use Rattle.net_wires.specs.Links.{links_of}
use Rattle.net_wires.proofs.Ready.{follows, length_links}
use Rattle.net_wires.proofs.Walks.{length_power}
use Rattle.net_wires.proofs.following.follow.Goals as goal

pub returns-clause-follows : goal.returns-clause-follows
returns-clause-follows c =
    follows c.args.count c.args.pairs.now c.in_ok-ends.ends.items _ c.requires.room c.requires.within
    (subst (λ (t : List Link). Tied t c.in_ok-ends.ends.items) c.in_ok-links_of.ensures c.in_ok-ends.ensures)
    c.from_vec.ensures
    (c.from_vec-2.ensures ∙ c.in_ok-rings.ensures ∙ ap (λ (xs : List Link). mark_all (replicate (length xs) false) xs) c.as_slice.ensures.value)

pub returns-clause-long : goal.returns-clause-long
returns-clause-long c =
    let d : Tied (links_of c.args.count c.args.pairs.now) c.in_ok-ends.ends.items = subst (λ (t : List Link). Tied t c.in_ok-ends.ends.items) c.in_ok-links_of.ensures c.in_ok-ends.ensures in
    ap length (c.from_vec.ensures ∙ d.is) ∙ length_power (links_of c.args.count c.args.pairs.now) d.rounds ∙ length_links c.args.count c.args.pairs.now
