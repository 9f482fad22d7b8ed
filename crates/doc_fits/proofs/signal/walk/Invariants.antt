use Rattle.std.proofs.Common.{◌≡◌, ◌≤◌, ◌+◌, length, false}
use Rattle.doc_fits.specs.Tests.{spot, walk}
use Rattle.doc_fits.proofs.signal.walk.Given as goal

abbrev pub invariant-loop-rest : goal.invariant-loop-rest
invariant-loop-rest l = record {
  whole : walk l.spot l.rest ≡ walk (spot 0 false) l.parts;
  deep : l.spot.depth + length l.rest ≤ length l.parts;
}

abbrev pub decreases-loop-rest : goal.decreases-loop-rest
decreases-loop-rest l = length l.rest
