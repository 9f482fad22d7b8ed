use Rattle.std.proofs.Common.{◌≡◌}
use Rattle.net_gather.specs.PortClocks.{any_below, lacks_clock}
use Rattle.net_gather.proofs.clocks.any_lacks_clock.Given as goal

abbrev pub invariant-loop-left : goal.invariant-loop-left
invariant-loop-left l = any_below (lacks_clock l.continues l.clocked) l.left ≡ any_below (lacks_clock l.continues l.clocked) l.ports

abbrev pub decreases-loop-left : goal.decreases-loop-left
decreases-loop-left l = l.left
