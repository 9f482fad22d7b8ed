use Rattle.std.proofs.Common.{◌≡◌, take}
use Rattle.std.specs.List.{flat_map}
use Rattle.net_checks.specs.Inouts.{inout_name}
use Rattle.net_checks.proofs.inouts.inout_names.Given as goal

abbrev pub invariant-loop-item : goal.invariant-loop-item
invariant-loop-item l = l.names.items ≡ flat_map inout_name (take l.item-index l.items)
