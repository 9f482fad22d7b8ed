use Rattle.std.proofs.Common.{◌≡◌, map, take}
use Rattle.raw_cells.specs.Tied.{end_bit}
use Rattle.raw_cells.proofs.tied.end_bits.Given as goal

abbrev pub invariant-loop-link : goal.invariant-loop-link
invariant-loop-link l = l.bits.items ≡ map end_bit (take l.link-index l.ends)
