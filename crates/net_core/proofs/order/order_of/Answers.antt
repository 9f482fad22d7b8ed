use Rattle.std.proofs.Common.{◌≡◌, ℕ, ◌+◌, ◌<◌, [], length, Some, sym, ap, ◌∙◌, subst, refl, arith}
use Rattle.std.specs.Prelude.{slice_get}
use Rattle.std.proofs.lemmas.Option.{slice_get_read}
use Rattle.net_core.specs.declared.search.Search.{Search}
use Rattle.net_core.specs.declared.search.Mark.TheVariants.{New}
use Rattle.net_core.specs.Search.{IsOrder, Searching}
use Rattle.net_core.proofs.Searching.{same_search, open_start, finished, none_new_more, not_new_more}
use Rattle.net_core.proofs.order.order_of.Goals as goal
use Rattle.net_core.proofs.order.order_of.Goals.{in-New+in_ok-open+in_ok-finish, in_default}

pub finish-requires-clause-searching : goal.finish-requires-clause-searching
finish-requires-clause-searching c =
    let s = c.loop-start.search in
    let within : c.loop-start.start < length s.marks.items = omega (arith, c.loop-start.invariant.0.marked.count) in
    let new : slice_get s.marks.items c.loop-start.start ≡ Some New = slice_get_read s.marks.items (length s.marks.items) c.loop-start.start _ refl within c.index.ensures ∙ ap Some c.in-New.is in
    same_search c.args.graph.now _ _ _ _ _ _ _ _ c.in_ok-open.ensures.marks c.in_ok-open.ensures.left c.in_ok-open.ensures.stack c.in_ok-open.ensures.order
    (open_start c.args.graph.now s.marks.items s.left.items s.stack.items s.order.items c.loop-start.start c.loop-start.invariant.0 c.loop-start.invariant.1 new)

pub returns-clause-order : goal.returns-clause-order
returns-clause-order c =
    let s = c.loop-start.search in
    subst (IsOrder c.args.graph.now) (sym c.from_vec.ensures)
    (finished c.args.graph.now s.marks.items s.left.items s.stack.items s.order.items c.loop-start.invariant.0 c.loop-start.invariant.1 (λ i h. c.loop-start.invariant.2 i (omega (arith, h))))

pub loop-start-preserved : goal.loop-start-preserved
loop-start-preserved c =
    let s = c.loop-start.search in
    let at = c.loop-start.start in
    let within : at < length s.marks.items = omega (arith, c.loop-start.invariant.0.marked.count) in
    let mark : slice_get s.marks.items at ≡ Some c.index.result.now = slice_get_read s.marks.items (length s.marks.items) at _ refl within c.index.ensures in
    let Kept : Search → Type 0 = λ x. Searching c.args.graph.now x.marks.items x.left.items x.stack.items x.order.items × (x.stack.items ≡ []) × ((i : ℕ) → i < at + 1 → slice_get x.marks.items i ≡ Some New → ⊥) in
    elim c.match-index.branch [
      | in-New+in_ok-open+in_ok-finish w ↦ subst Kept (sym w.search-is)
          (w.in_ok-finish.ensures.searching, w.in_ok-finish.ensures.empty, none_new_more s.marks.items _ _ at within w.in_ok-open.ensures.marks w.in_ok-finish.ensures.none_new c.loop-start.invariant.2)
      | in_default w ↦ subst Kept (sym w.search-is)
          (c.loop-start.invariant.0, c.loop-start.invariant.1, not_new_more s.marks.items at c.index.result.now mark w.in_default.not-New c.loop-start.invariant.2)
    ]
