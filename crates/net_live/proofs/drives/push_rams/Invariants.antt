use Rattle.std.proofs.Common.{◌≡◌, ◌++◌, drop}
use Rattle.std.specs.List.{flat_map}
use Rattle.net_live.specs.Driving.{slot_nets}
use Rattle.net_live.proofs.drives.push_rams.Given as goal

abbrev pub invariant-loop-ram : goal.invariant-loop-ram
invariant-loop-ram l = l.nets.items ++ flat_map slot_nets (drop l.ram-index l.rams) ≡ l.initial.nets.items ++ flat_map slot_nets l.rams
