use Rattle.std.proofs.Common.{◌≡◌, ◌+◌, ◌-◌, ◌<◌, ◌≤◌, [], ◌∷◌, length, set, sum, Some, sym, ap, ◌∙◌, subst, refl, rules, arith}
use Rattle.std.specs.Prelude.{slice_get}
use Rattle.std.proofs.lemmas.Option.{slice_get_read}
use Rattle.std.proofs.lemmas.List.{length-append}
use Rattle.net_core.specs.Search.{NoneNew}
use Rattle.net_core.proofs.Searching.{same_search, close_top, take_step, enough, sum_less, top_marked, top_left, top_graph, none_new_done}
use Rattle.net_core.proofs.search.Search.step.Goals as goal

pub index-left-requires : goal.index-left-requires
index-left-requires c = let s = c.args.self.now in let low = top_left c.args.graph.now s.marks.items s.left.items s.stack.items s.order.items c.args.node c.requires.searching in omega (arith, low, s.left.ok.0)

pub close-requires : goal.close-requires
close-requires c = let s = c.args.self.now in top_marked c.args.graph.now s.marks.items s.left.items s.stack.items s.order.items c.args.node c.requires.searching

pub returns-then-left-eq0-clause-searching : goal.returns-then-left-eq0-clause-searching
returns-then-left-eq0-clause-searching c =
    let s = c.args.self.now in
    let low = top_left c.args.graph.now s.marks.items s.left.items s.stack.items s.order.items c.args.node c.requires.searching in
    let none : slice_get s.left.items c.args.node ≡ Some 0 = slice_get_read s.left.items (length s.left.items) c.args.node _ refl low c.index-left.ensures ∙ ap Some c.if-left-eq0.true in
    same_search c.args.graph.now _ _ _ _ _ _ _ _ c.in_ok-close.ensures.marks c.in_ok-close.ensures.left c.in_ok-close.ensures.stack c.in_ok-close.ensures.order
    (close_top c.args.graph.now s.marks.items s.left.items s.stack.items s.order.items c.args.node c.requires.searching none)

pub returns-then-left-eq0-clause-none_new : goal.returns-then-left-eq0-clause-none_new
returns-then-left-eq0-clause-none_new c =
    let s = c.args.self.now in
    let low = top_marked c.args.graph.now s.marks.items s.left.items s.stack.items s.order.items c.args.node c.requires.searching in
    subst (NoneNew s.marks.items) (sym c.in_ok-close.ensures.marks) (none_new_done s.marks.items c.args.node low)

pub index_mut-requires : goal.index_mut-requires
index_mut-requires c = let s = c.args.self.now in let low = top_left c.args.graph.now s.marks.items s.left.items s.stack.items s.order.items c.args.node c.requires.searching in omega (arith, low, s.left.ok.0)

pub bounds-graph-place : goal.bounds-graph-place
bounds-graph-place c = let s = c.args.self.now in top_graph c.args.graph.now s.marks.items s.left.items s.stack.items s.order.items c.args.node c.requires.searching

pub bounds-as_slice-left : goal.bounds-as_slice-left
bounds-as_slice-left c =
    let s = c.args.self.now in
    let low = top_left c.args.graph.now s.marks.items s.left.items s.stack.items s.order.items c.args.node c.requires.searching in
    let low_graph = top_graph c.args.graph.now s.marks.items s.left.items s.stack.items s.order.items c.args.node c.requires.searching in
    let left_at = slice_get_read s.left.items (length s.left.items) c.args.node _ refl low c.index-left.ensures in
    let is_row = slice_get_read c.args.graph.now (length c.args.graph.now) c.args.node _ refl low_graph c.index-graph-place.is in
    enough c.args.graph.now s.marks.items s.left.items s.stack.items s.order.items c.args.node c.index-left.result.now _ c.as_slice.result.now c.requires.searching left_at c.if-left-eq0.false is_row c.as_slice.ensures

pub offset_bounds-as_slice-left : goal.offset_bounds-as_slice-left
offset_bounds-as_slice-left c =
    let s = c.args.self.now in
    let low = top_left c.args.graph.now s.marks.items s.left.items s.stack.items s.order.items c.args.node c.requires.searching in
    let low_graph = top_graph c.args.graph.now s.marks.items s.left.items s.stack.items s.order.items c.args.node c.requires.searching in
    let left_at = slice_get_read s.left.items (length s.left.items) c.args.node _ refl low c.index-left.ensures in
    let is_row = slice_get_read c.args.graph.now (length c.args.graph.now) c.args.node _ refl low_graph c.index-graph-place.is in
    let inside : c.index-left.result.now - 1 < length c.as_slice.result.now = enough c.args.graph.now s.marks.items s.left.items s.stack.items s.order.items c.args.node c.index-left.result.now _ c.as_slice.result.now c.requires.searching left_at c.if-left-eq0.false is_row c.as_slice.ensures in
    search rules

pub visit-requires : goal.visit-requires
visit-requires c =
    let s = c.args.self.now in
    let low = top_left c.args.graph.now s.marks.items s.left.items s.stack.items s.order.items c.args.node c.requires.searching in
    let low_graph = top_graph c.args.graph.now s.marks.items s.left.items s.stack.items s.order.items c.args.node c.requires.searching in
    let left_at = slice_get_read s.left.items (length s.left.items) c.args.node _ refl low c.index-left.ensures in
    let is_row = slice_get_read c.args.graph.now (length c.args.graph.now) c.args.node _ refl low_graph c.index-graph-place.is in
    take_step c.args.graph.now s.marks.items s.left.items s.stack.items c.push.new.self.items s.order.items c.args.node c.index-left.result.now _ c.as_slice.result.now
    c.requires.closed c.requires.searching c.in_ok-push.ensures.items left_at c.if-left-eq0.false is_row c.as_slice.ensures

pub returns-clause-less : goal.returns-clause-less
returns-clause-less c =
    let s = c.args.self.now in
    let low = top_left c.args.graph.now s.marks.items s.left.items s.stack.items s.order.items c.args.node c.requires.searching in
    let left_at = slice_get_read s.left.items (length s.left.items) c.args.node _ refl low c.index-left.ensures in
    let fewer = sum_less s.left.items c.args.node c.index-left.result.now left_at c.if-left-eq0.false in
    let sums : sum c.visit.new.self.left.items ≡ sum (set s.left.items c.args.node (c.index-left.result.now - 1)) = ap sum c.in_ok-visit.ensures.left in
    let pushed : length c.push.new.self.items ≡ length s.stack.items + 1 = ap length c.in_ok-push.ensures.items ∙ length-append s.stack.items (c.args.node ∷ []) in
    let stacks : length c.visit.new.self.stack.items ≤ length c.push.new.self.items + 1 = c.in_ok-visit.ensures.stack in
    omega (arith, fewer, sums, pushed, stacks)
