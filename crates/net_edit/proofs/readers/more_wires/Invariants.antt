use Rattle.std.proofs.Common.{◌≡◌, ◌+◌, ◌^◌, ◌<◌, length}
use Rattle.std.specs.List.{flat_map}
use Rattle.net_edit.specs.Users.{output_bits, capped, uses_in}
use Rattle.net_edit.proofs.readers.more_wires.Given as goal

abbrev pub invariant-loop-rest : goal.invariant-loop-rest
invariant-loop-rest l = record {
  left : capped (l.count + uses_in l.net (flat_map output_bits l.rest)) ≡ capped (l.fn.count + uses_in l.net (flat_map output_bits l.wires));
  low : l.count < 2 ^ 64;
}

abbrev pub decreases-loop-rest : goal.decreases-loop-rest
decreases-loop-rest l = length l.rest
