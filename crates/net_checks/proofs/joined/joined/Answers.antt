use Rattle.std.proofs.Common.{◌≡◌, ◌||◌, Bool, List, length, map, ap, ◌∙◌, arith}
use Rattle.std.specs.List.{range_with_len}
use Rattle.net_wires.proofs.Driven.{range_turn}
use Rattle.net_checks.specs.Joined.{end_at, is_end_marked}
use Rattle.net_checks.specs.Marks.{is_marked}
use Rattle.net_checks.proofs.Joining.{joined_are}
use Rattle.net_checks.proofs.joined.joined.Goals as goal

pub loop-place-preserved : goal.loop-place-preserved
loop-place-preserved c =
    range_turn (λ p. is_marked c.args.marks.now p || is_end_marked c.in_ok-reached.reached.items (end_at c.args.ends.now p)) c.loop-place.place c.loop-place.found.items c.push.new.self.items
    (c.is_marked-here.result || c.is_end_marked.result) c.loop-place.invariant
    (ap (λ b. b || c.is_end_marked.result) c.is_marked-here.ensures
    ∙ ap (λ b. is_marked c.args.marks.now c.loop-place.place || b)
    (c.is_end_marked.ensures ∙ ap (λ (ms : List Bool). is_end_marked ms (end_at c.args.ends.now c.loop-place.place)) c.as_slice.ensures.value))
    c.in_ok-push.ensures.items

pub returns : goal.returns
returns c =
    let all : c.loop-place.place ≡ length c.args.ends.now = omega (arith, c.loop-place.auto.place-end, c.loop-place-test.false) in
    joined_are c.args.marks.now c.args.ends.now c.in_ok-reached.reached.items c.loop-place.found.items c.in_ok-reached.ensures c.requires
    (c.loop-place.invariant ∙ ap (λ n. map (λ p. is_marked c.args.marks.now p || is_end_marked c.in_ok-reached.reached.items (end_at c.args.ends.now p)) (range_with_len 0 n)) all)
