use Rattle.std.proofs.Common.{◌≡◌, ◌++◌, drop}
use Rattle.std.specs.List.{flat_map}
use Rattle.net_live.specs.Driving.{read_nets}
use Rattle.net_live.proofs.drives.push_mems.Given as goal

abbrev pub invariant-loop-mem : goal.invariant-loop-mem
invariant-loop-mem l = l.nets.items ++ flat_map read_nets (drop l.mem-index l.mems) ≡ l.initial.nets.items ++ flat_map read_nets l.mems
