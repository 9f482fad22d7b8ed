use Rattle.std.proofs.Common.{◌≡◌, ◌+◌, ◌-◌, ◌<◌, ◌≤◌, ◌∷◌, [], length, set, sum, Some, ap, ◌∙◌, subst, refl, rules, arith}
use Rattle.std.specs.Prelude.{slice_get}
use Rattle.std.proofs.lemmas.Option.{slice_get_read}
use Rattle.std.proofs.lemmas.List.{length-append}
use Rattle.net_core.proofs.Searching.{sum_less}
use Rattle.net_loops.proofs.Walking.{same_walk, close_top, take_step, meet_step, enough, top_left, top_graph, target_label, begins_closed, after_visit, visit_kept, visit_begins, visit_longer}
use Rattle.net_loops.proofs.walk.Walk.step.Goals as goal

pub index-left-requires : goal.index-left-requires
index-left-requires c = let s = c.args.self.now in let low = top_left c.args.graph.now c.args.goal 4294967295 c.args.label s.labels.items s.left.items s.stack.items s.done.items c.args.node c.requires.walking in omega (arith, low, s.left.ok.0)

pub returns-then-left-eq0-clause-walking : goal.returns-then-left-eq0-clause-walking
returns-then-left-eq0-clause-walking c = λ same.
    let s = c.args.self.now in
    let low = top_left c.args.graph.now c.args.goal 4294967295 c.args.label s.labels.items s.left.items s.stack.items s.done.items c.args.node c.requires.walking in
    let none : slice_get s.left.items c.args.node ≡ Some 0 = slice_get_read s.left.items (length s.left.items) c.args.node _ refl low c.index-left.ensures ∙ ap Some c.if-left-eq0.true in
    same_walk c.args.graph.now c.args.goal 4294967295 c.args.label _ _ _ _ _ _ _ _ refl refl refl c.in_ok-push.ensures.items
    (close_top c.args.graph.now c.args.goal 4294967295 c.args.label s.labels.items s.left.items s.stack.items s.done.items c.args.node c.requires.walking none)

pub returns-then-left-eq0-clause-begins : goal.returns-then-left-eq0-clause-begins
returns-then-left-eq0-clause-begins c = begins_closed c.args.self.now.stack.items c.args.node

pub index_mut-requires : goal.index_mut-requires
index_mut-requires c = let s = c.args.self.now in let low = top_left c.args.graph.now c.args.goal 4294967295 c.args.label s.labels.items s.left.items s.stack.items s.done.items c.args.node c.requires.walking in omega (arith, low, s.left.ok.0)

pub bounds-graph-place : goal.bounds-graph-place
bounds-graph-place c = let s = c.args.self.now in top_graph c.args.graph.now c.args.goal 4294967295 c.args.label s.labels.items s.left.items s.stack.items s.done.items c.args.node c.requires.walking

pub bounds-as_slice-left : goal.bounds-as_slice-left
bounds-as_slice-left c =
    let s = c.args.self.now in
    let low = top_left c.args.graph.now c.args.goal 4294967295 c.args.label s.labels.items s.left.items s.stack.items s.done.items c.args.node c.requires.walking in
    let low_graph = top_graph c.args.graph.now c.args.goal 4294967295 c.args.label s.labels.items s.left.items s.stack.items s.done.items c.args.node c.requires.walking in
    let left_at = slice_get_read s.left.items (length s.left.items) c.args.node _ refl low c.index-left.ensures in
    let is_row = slice_get_read c.args.graph.now (length c.args.graph.now) c.args.node _ refl low_graph c.index-graph-place.is in
    enough c.args.graph.now c.args.goal 4294967295 c.args.label s.labels.items s.left.items s.stack.items s.done.items c.args.node c.index-left.result.now _ c.as_slice.result.now c.requires.walking left_at c.if-left-eq0.false is_row c.as_slice.ensures

pub offset_bounds-as_slice-left : goal.offset_bounds-as_slice-left
offset_bounds-as_slice-left c =
    let s = c.args.self.now in
    let low = top_left c.args.graph.now c.args.goal 4294967295 c.args.label s.labels.items s.left.items s.stack.items s.done.items c.args.node c.requires.walking in
    let low_graph = top_graph c.args.graph.now c.args.goal 4294967295 c.args.label s.labels.items s.left.items s.stack.items s.done.items c.args.node c.requires.walking in
    let left_at = slice_get_read s.left.items (length s.left.items) c.args.node _ refl low c.index-left.ensures in
    let is_row = slice_get_read c.args.graph.now (length c.args.graph.now) c.args.node _ refl low_graph c.index-graph-place.is in
    let inside : c.index-left.result.now - 1 < length c.as_slice.result.now = enough c.args.graph.now c.args.goal 4294967295 c.args.label s.labels.items s.left.items s.stack.items s.done.items c.args.node c.index-left.result.now _ c.as_slice.result.now c.requires.walking left_at c.if-left-eq0.false is_row c.as_slice.ensures in
    search rules

pub returns-then-target-goal-clause-met : goal.returns-then-target-goal-clause-met
returns-then-target-goal-clause-met c = λ same.
    let s = c.args.self.now in
    let low = top_left c.args.graph.now c.args.goal 4294967295 c.args.label s.labels.items s.left.items s.stack.items s.done.items c.args.node c.requires.walking in
    let low_graph = top_graph c.args.graph.now c.args.goal 4294967295 c.args.label s.labels.items s.left.items s.stack.items s.done.items c.args.node c.requires.walking in
    let left_at = slice_get_read s.left.items (length s.left.items) c.args.node _ refl low c.index-left.ensures in
    let is_row = slice_get_read c.args.graph.now (length c.args.graph.now) c.args.node _ refl low_graph c.index-graph-place.is in
    meet_step c.args.graph.now c.args.goal 4294967295 c.args.label s.labels.items s.left.items s.stack.items c.push-2.new.self.items s.done.items c.args.node c.index-left.result.now _ c.as_slice.result.now
    c.requires.walking c.in_ok-push-2.ensures.items left_at c.if-left-eq0.false is_row c.as_slice.ensures c.if-target-goal.true

pub visit-requires : goal.visit-requires
visit-requires c =
    let s = c.args.self.now in
    let low = top_left c.args.graph.now c.args.goal 4294967295 c.args.label s.labels.items s.left.items s.stack.items s.done.items c.args.node c.requires.walking in
    let low_graph = top_graph c.args.graph.now c.args.goal 4294967295 c.args.label s.labels.items s.left.items s.stack.items s.done.items c.args.node c.requires.walking in
    let left_at = slice_get_read s.left.items (length s.left.items) c.args.node _ refl low c.index-left.ensures in
    let is_row = slice_get_read c.args.graph.now (length c.args.graph.now) c.args.node _ refl low_graph c.index-graph-place.is in
    let going = take_step c.args.graph.now c.args.goal 4294967295 c.args.label s.labels.items s.left.items s.stack.items c.push-2.new.self.items s.done.items c.args.node c.index-left.result.now _ c.as_slice.result.now
    c.requires.closed c.requires.walking c.in_ok-push-2.ensures.items left_at c.if-left-eq0.false is_row c.as_slice.ensures c.if-target-goal.false in
    target_label c.args.graph.now c.args.goal 4294967295 c.args.label _ _ _ _ _ going

pub returns-clause-walking : goal.returns-clause-walking
returns-clause-walking c = λ same.
    let s = c.args.self.now in
    let low = top_left c.args.graph.now c.args.goal 4294967295 c.args.label s.labels.items s.left.items s.stack.items s.done.items c.args.node c.requires.walking in
    let low_graph = top_graph c.args.graph.now c.args.goal 4294967295 c.args.label s.labels.items s.left.items s.stack.items s.done.items c.args.node c.requires.walking in
    let left_at = slice_get_read s.left.items (length s.left.items) c.args.node _ refl low c.index-left.ensures in
    let is_row = slice_get_read c.args.graph.now (length c.args.graph.now) c.args.node _ refl low_graph c.index-graph-place.is in
    let going = take_step c.args.graph.now c.args.goal 4294967295 c.args.label s.labels.items s.left.items s.stack.items c.push-2.new.self.items s.done.items c.args.node c.index-left.result.now _ c.as_slice.result.now
    c.requires.closed c.requires.walking c.in_ok-push-2.ensures.items left_at c.if-left-eq0.false is_row c.as_slice.ensures c.if-target-goal.false in
    after_visit c.args.graph.now c.args.goal 4294967295 c.args.label _ _ _ _ _ _ _ _ _ going c.in_ok-visit.ensures.visit c.in_ok-visit.ensures.left c.in_ok-visit.ensures.done

pub returns-clause-kept : goal.returns-clause-kept
returns-clause-kept c = visit_kept c.args.label _ _ _ _ _ c.in_ok-visit.ensures.visit

pub returns-clause-begins : goal.returns-clause-begins
returns-clause-begins c =
    let s = c.args.self.now in
    let low = top_left c.args.graph.now c.args.goal 4294967295 c.args.label s.labels.items s.left.items s.stack.items s.done.items c.args.node c.requires.walking in
    let low_graph = top_graph c.args.graph.now c.args.goal 4294967295 c.args.label s.labels.items s.left.items s.stack.items s.done.items c.args.node c.requires.walking in
    let left_at = slice_get_read s.left.items (length s.left.items) c.args.node _ refl low c.index-left.ensures in
    let is_row = slice_get_read c.args.graph.now (length c.args.graph.now) c.args.node _ refl low_graph c.index-graph-place.is in
    let going = take_step c.args.graph.now c.args.goal 4294967295 c.args.label s.labels.items s.left.items s.stack.items c.push-2.new.self.items s.done.items c.args.node c.index-left.result.now _ c.as_slice.result.now
    c.requires.closed c.requires.walking c.in_ok-push-2.ensures.items left_at c.if-left-eq0.false is_row c.as_slice.ensures c.if-target-goal.false in
    let begins = visit_begins c.args.label _ _ _ _ _ c.in_ok-visit.ensures.visit going.some in
    λ i h. subst (λ xs. slice_get xs 0 ≡ Some i) c.in_ok-push-2.ensures.items (begins i h)

pub returns-clause-less : goal.returns-clause-less
returns-clause-less c = λ same.
    let s = c.args.self.now in
    let low = top_left c.args.graph.now c.args.goal 4294967295 c.args.label s.labels.items s.left.items s.stack.items s.done.items c.args.node c.requires.walking in
    let left_at = slice_get_read s.left.items (length s.left.items) c.args.node _ refl low c.index-left.ensures in
    let fewer = sum_less s.left.items c.args.node c.index-left.result.now left_at c.if-left-eq0.false in
    let sums : sum c.visit.new.self.left.items ≡ sum (set s.left.items c.args.node (c.index-left.result.now - 1)) = ap sum c.in_ok-visit.ensures.left in
    let pushed : length c.push-2.new.self.items ≡ length s.stack.items + 1 = ap length c.in_ok-push-2.ensures.items ∙ length-append s.stack.items (c.args.node ∷ []) in
    let stacks : length c.visit.new.self.stack.items ≤ length c.push-2.new.self.items + 1 = visit_longer c.args.label _ _ _ _ _ c.in_ok-visit.ensures.visit in
    omega (arith, fewer, sums, pushed, stacks)
