use Rattle.std.proofs.Common.{◌≡◌, ◌≤◌, ◌∷◌, ◌++◌, [], Some, sym, ap, ◌∙◌, subst, arith}
use Rattle.std.specs.Prelude.{slice_get}
use Rattle.net_core.proofs.Basics.{get_within}
use Rattle.net_core.proofs.Searching.{get_set_same}
use Rattle.net_core.specs.Search.{IsRing}
use Rattle.net_loops.specs.Walks.{Walking}
use Rattle.net_loops.proofs.Walking.{open_start, same_walk}
use Rattle.net_loops.proofs.Circles.{not_met, met_ring}
use Rattle.net_loops.proofs.rings.ring_at.Goals as goal

pub run-requires-clause-walking : goal.run-requires-clause-walking
run-requires-clause-walking c =
    let w = c.in_ok-walk.walk in
    let graph = c.args.graph.now in
    let start : Walking graph c.args.node 4294967295 0 w.labels.items w.left.items w.stack.items w.done.items = c.in_ok-walk.ensures.walking c.args.node 0 (omega arith) in
    let at = get_within w.labels.items c.args.node (omega (arith, c.requires.within, start.placed.labelled)) in
    let new = c.in_ok-walk.ensures.labels c.args.node at.0 at.1 in
    same_walk graph c.args.node 4294967295 0 _ _ _ _ _ _ _ _ c.in_ok-enter.ensures.labels c.in_ok-enter.ensures.left c.in_ok-enter.ensures.stack c.in_ok-enter.ensures.done
    (open_start graph c.args.node 4294967295 0 w.labels.items w.left.items w.stack.items w.done.items c.args.node at.0 start c.in_ok-walk.ensures.stack at.1 (omega (arith, new)))

pub returns-then-branch : goal.returns-then-branch
returns-then-branch c =
    let start : c.enter.new.self.stack.items ≡ c.args.node ∷ [] = c.in_ok-enter.ensures.stack ∙ ap (λ xs. xs ++ c.args.node ∷ []) c.in_ok-walk.ensures.stack in
    subst (λ xs. IsRing c.args.graph.now xs × (slice_get xs 0 ≡ Some c.args.node)) (sym c.from_vec.ensures)
    (met_ring c.args.graph.now c.args.node c.enter.new.self.stack.items c.run.new.self.stack.items (c.in_ok-run.ensures.met c.if-branch.true) c.in_ok-run.ensures.begins start)

pub returns : goal.returns
returns c =
    let w = c.in_ok-walk.walk in
    let graph = c.args.graph.now in
    let begun : Walking graph c.args.node 4294967295 0 w.labels.items w.left.items w.stack.items w.done.items = c.in_ok-walk.ensures.walking c.args.node 0 (omega arith) in
    let here : slice_get c.enter.new.self.labels.items c.args.node ≡ Some 0 = ap (λ ls. slice_get ls c.args.node) c.in_ok-enter.ensures.labels ∙ get_set_same w.labels.items c.args.node 0 (omega (arith, c.requires.within, begun.placed.labelled)) in
    let zero_low : 0 ≤ 0 = omega arith in
    let still : slice_get c.run.new.self.labels.items c.args.node ≡ Some 0 = c.in_ok-run.ensures.kept c.args.node 0 here zero_low in
    not_met graph c.args.node 4294967295 0 c.run.new.self.labels.items c.run.new.self.left.items c.run.new.self.stack.items c.run.new.self.done.items (c.in_ok-run.ensures.walking c.if-branch.false) (c.in_ok-run.ensures.empty c.if-branch.false) (0, still, zero_low)
