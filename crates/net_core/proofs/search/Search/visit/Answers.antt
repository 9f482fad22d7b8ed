use Rattle.std.proofs.Common.{◌≡◌, ◌<◌, length, Some, sym, ap, ◌∙◌, subst, refl, arith}
use Rattle.std.specs.Prelude.{slice_get}
use Rattle.std.proofs.lemmas.Option.{slice_get_read}
use Rattle.net_core.specs.declared.search.Mark.TheVariants.{Opened}
use Rattle.net_core.specs.declared.search.Search.{Search}
use Rattle.net_core.specs.Search.{NoneNew, IsRing}
use Rattle.net_core.proofs.Searching.{ring, open_target, pass_target, same_search, none_new_opened}
use Rattle.net_core.proofs.search.Search.visit.Goals as goal
use Rattle.net_core.proofs.search.Search.visit.Goals.{in-New+in_ok-open-in-New, in-Done}

pub returns-in-Opened-clause-fault : goal.returns-in-Opened-clause-fault
returns-in-Opened-clause-fault c =
    let s = c.args.self.now in
    let within : c.args.target < length s.marks.items = omega (arith, c.requires.within, c.requires.marked.count) in
    let mark : slice_get s.marks.items c.args.target ≡ Some Opened = slice_get_read s.marks.items (length s.marks.items) c.args.target _ refl within c.index.ensures ∙ ap Some c.in-Opened.is in
    let place = c.requires.marked.stacked c.args.target mark in
    let from = c.in_ok-nodes-in-Opened.ensures place.0 place.1 in
    subst (IsRing c.args.graph.now) (sym from.2) (ring c.args.graph.now s.marks.items s.left.items s.stack.items s.order.items c.args.target from.0 c.requires from.1)

pub returns-clause-searching : goal.returns-clause-searching
returns-clause-searching c =
    let s = c.args.self.now in
    let within : c.args.target < length s.marks.items = omega (arith, c.requires.within, c.requires.marked.count) in
    let mark : slice_get s.marks.items c.args.target ≡ Some c.index.result.now = slice_get_read s.marks.items (length s.marks.items) c.args.target _ refl within c.index.ensures in
    elim c.match-index.branch [
      | in-New+in_ok-open-in-New w ↦ same_search c.args.graph.now _ _ _ _ _ _ _ _
          (ap (λ (x : Search). x.marks.items) w.self-is ∙ w.in_ok-open-in-New.ensures.marks) (ap (λ (x : Search). x.left.items) w.self-is ∙ w.in_ok-open-in-New.ensures.left)
          (ap (λ (x : Search). x.stack.items) w.self-is ∙ w.in_ok-open-in-New.ensures.stack) (ap (λ (x : Search). x.order.items) w.self-is ∙ w.in_ok-open-in-New.ensures.order)
          (open_target c.args.graph.now s.marks.items s.left.items s.stack.items s.order.items c.args.target c.requires (mark ∙ ap Some w.in-New.is))
      | in-Done w ↦ same_search c.args.graph.now _ _ _ _ _ _ _ _
          (ap (λ (x : Search). x.marks.items) w.self-is) (ap (λ (x : Search). x.left.items) w.self-is) (ap (λ (x : Search). x.stack.items) w.self-is) (ap (λ (x : Search). x.order.items) w.self-is)
          (pass_target c.args.graph.now s.marks.items s.left.items s.stack.items s.order.items c.args.target c.requires (mark ∙ ap Some w.in-Done.is))
    ]

pub returns-clause-none_new : goal.returns-clause-none_new
returns-clause-none_new c =
    let s = c.args.self.now in
    let within : c.args.target < length s.marks.items = omega (arith, c.requires.within, c.requires.marked.count) in
    elim c.match-index.branch [
      | in-New+in_ok-open-in-New w ↦ subst (NoneNew s.marks.items) (sym (ap (λ (x : Search). x.marks.items) w.self-is ∙ w.in_ok-open-in-New.ensures.marks)) (none_new_opened s.marks.items c.args.target within)
      | in-Done w ↦ subst (NoneNew s.marks.items) (sym (ap (λ (x : Search). x.marks.items) w.self-is)) (λ i h. h)
    ]
