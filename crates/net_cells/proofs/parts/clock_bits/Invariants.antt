use Rattle.std.proofs.Common.{◌≡◌, ◌++◌, length}
use Rattle.net_cells.specs.Parts as spec
use Rattle.net_cells.proofs.parts.clock_bits.Given as goal

abbrev pub invariant-loop-rest : goal.invariant-loop-rest
invariant-loop-rest l = l.bits.items ++ spec.clock_bits l.places l.roots l.rest ≡ spec.clock_bits l.fn.places l.fn.roots l.fn.sources

abbrev pub decreases-loop-rest : goal.decreases-loop-rest
decreases-loop-rest l = length l.rest
