use Rattle.std.proofs.Common.{◌≡◌, take}
use Rattle.std.specs.List.{flat_map}
use Rattle.net_gather.specs.Faces.{output_name}
use Rattle.net_gather.proofs.faces.output_names.Given as goal

abbrev pub invariant-loop-item : goal.invariant-loop-item
invariant-loop-item l = l.names.items ≡ flat_map output_name (take l.item-index l.items)
