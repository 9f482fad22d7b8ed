use Rattle.std.proofs.Common.{◌≡◌, take}
use Rattle.std.specs.List.{flat_map}
use Rattle.net_gather.specs.Counts.{tally_of}
use Rattle.net_gather.proofs.gathering.tallies_of.Given as goal

abbrev pub invariant-loop-item : goal.invariant-loop-item
invariant-loop-item l = l.tallies.items ≡ flat_map tally_of (take l.item-index l.items)
