use Rattle.std.proofs.Common.{◌≡◌, take}
use Rattle.std.specs.List.{flat_map}
use Rattle.rtlil_text.specs.Grammar.{memory_name}
use Rattle.net_gather.proofs.gathering.memory_names.Given as goal

abbrev pub invariant-loop-item : goal.invariant-loop-item
invariant-loop-item l = l.names.items ≡ flat_map memory_name (take l.item-index l.items)
