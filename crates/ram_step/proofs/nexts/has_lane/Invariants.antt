use Rattle.std.proofs.Common.{◌≡◌, ◌-◌}
use Rattle.std.specs.List.{list_any, range_with_len}
use Rattle.net_core.specs.Ram.{slot_width}
use Rattle.ram_step.specs.Ports.{slot_of}
use Rattle.ram_step.specs.Moments.{valuation}
use Rattle.ram_step.specs.Nexts.{lane_at}
use Rattle.ram_step.proofs.nexts.has_lane.Given as goal

abbrev pub invariant-loop-place : goal.invariant-loop-place
invariant-loop-place g l =
    list_any (lane_at l.ports.variant (valuation l.values) (slot_of l.port)) (range_with_len l.place (l.width - l.place))
    ≡ list_any (lane_at l.ports.variant (valuation l.values) (slot_of l.port)) (range_with_len 0 (slot_width l.ports.variant (slot_of l.port)))
