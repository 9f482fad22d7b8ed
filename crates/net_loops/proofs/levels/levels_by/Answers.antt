use Rattle.std.proofs.Common.{ℕ, ◌+◌, ◌<◌, ◌≤◌, length, sym, subst, arith}
use Rattle.net_loops.specs.declared.walk.Walk.{Walk}
use Rattle.net_loops.specs.Walks.{Resting}
use Rattle.net_loops.proofs.Walking.{rest_start, rest_later}
use Rattle.net_loops.proofs.Levelling.{are_levels, front_within, front_kept}
use Rattle.net_loops.proofs.levels.levels_by.Goals as goal
use Rattle.net_loops.proofs.levels.levels_by.Goals.{in-Some+in_ok-cover, in_default}

pub loop-level-init : goal.loop-level-init
loop-level-init c =
    let w = c.in_ok-walk.walk in
    let least : 0 ≤ 0 = omega arith in
    let some : 0 < 4294967295 = omega arith in (
      (0, least, some, rest_start c.args.turned.now 4294967295 w.labels.items w.left.items w.stack.items w.done.items c.in_ok-walk.ensures.walking c.in_ok-walk.ensures.stack some),
      λ a i h. let low = c.in_ok-order.ensures a i h in omega (arith, low, c.requires.len),
    )

pub cover-requires-clause-within : goal.cover-requires-clause-within
cover-requires-clause-within c = (front_within c.loop-level.order.items c.pop.new.self.items c.in-Some.node (length c.args.turned.now) c.in-Some.ensures.items c.loop-level.invariant.1).0

pub cover-requires-clause-resting : goal.cover-requires-clause-resting
cover-requires-clause-resting c =
    let w = c.loop-level.walk in
    let was = c.loop-level.invariant.0 in
    let low : c.loop-level.level < 4294967295 = omega (arith, c.loop-level-test.true, c.requires.len, c.requires.few) in
    rest_later c.args.turned.now 4294967295 was.0 c.loop-level.level w.labels.items w.left.items w.stack.items w.done.items was.1 low was.3

pub loop-level-preserved : goal.loop-level-preserved
loop-level-preserved c =
    let was = c.loop-level.invariant.0 in
    let level = c.loop-level.level in
    let low : level < 4294967295 = omega (arith, c.loop-level-test.true, c.requires.len, c.requires.few) in
    let next : level ≤ level + 1 = omega arith in
    let still : was.0 ≤ level + 1 = omega (arith, was.1) in
    let Kept : Walk → Type 0 = λ x. (now : ℕ) × (now ≤ level + 1) × (now < 4294967295) × Resting c.args.turned.now 4294967295 now x.labels.items x.left.items x.stack.items x.done.items in (
      elim c.match-pop.branch [
        | in-Some+in_ok-cover w ↦ subst Kept (sym w.walk-is) (level, next, low, w.in_ok-cover.ensures.resting)
        | in_default w ↦ subst Kept (sym w.walk-is) (was.0, still, was.2, was.3)
      ],
      front_kept c.loop-level.order.items c.pop.new.self.items _ (length c.args.turned.now) c.pop.ensures.items c.loop-level.invariant.1,
    )

pub returns : goal.returns
returns c =
    let w = c.loop-level.walk in
    let was = c.loop-level.invariant.0 in
    are_levels c.args.graph.now c.args.turned.now 4294967295 was.0 w.labels.items w.left.items w.stack.items w.done.items was.2 c.requires.len c.requires.turned was.3
