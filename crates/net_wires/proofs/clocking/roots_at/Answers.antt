use Rattle.std.proofs.Common.{◌*◌, ℕ, get_or}
use Rattle.net_wires.specs.declared.link.Link.TheVariants.{Zero}
use Rattle.net_wires.specs.Ways.{root_at}
use Rattle.net_wires.proofs.Driven.{range_turn}
use Rattle.net_wires.proofs.clocking.roots_at.Goals as goal

pub loop-place-preserved : goal.loop-place-preserved
loop-place-preserved c = range_turn (λ (p : ℕ). root_at (get_or c.args.ends.now (3 * p) Zero)) c.loop-place.place c.loop-place.clocks.items c.push.new.self.items c.root_at.result c.loop-place.invariant c.root_at.ensures c.in_ok-push.ensures.items
