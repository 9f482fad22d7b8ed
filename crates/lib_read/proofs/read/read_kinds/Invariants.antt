use Rattle.std.proofs.Common.{◌≡◌, [], length}
use Rattle.lib_read.specs.Reading.{onto, read_kinds}
use Rattle.lib_read.proofs.read.read_kinds.Given as goal

abbrev pub invariant-loop-rest : goal.invariant-loop-rest
invariant-loop-rest l = onto l.kinds (read_kinds l.names l.rest) ≡ read_kinds [] l.rams

abbrev pub decreases-loop-rest : goal.decreases-loop-rest
decreases-loop-rest l = length l.rest
