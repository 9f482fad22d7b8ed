use Rattle.std.proofs.Common.{refl}
use Rattle.net_checks.specs.Joined.{end_at}
use Rattle.net_checks.proofs.Joining.{reached_turn}
use Rattle.net_checks.proofs.joined.reached.Goals as goal

pub loop-place-preserved : goal.loop-place-preserved
loop-place-preserved c =
    reached_turn c.args.marks.now c.args.ends.now c.loop-place.place c.loop-place.found.items c.mark_end_if.new.marks.items c.is_marked.result (end_at c.args.ends.now c.loop-place.place)
    c.loop-place.invariant c.is_marked.ensures refl c.mark_end_if.ensures
