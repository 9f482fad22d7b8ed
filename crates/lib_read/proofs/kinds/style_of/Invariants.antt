use Rattle.std.proofs.Common.{◌≡◌, length}
use Rattle.lib_read.specs.Expansion.{style_of}
use Rattle.lib_read.proofs.kinds.style_of.Given as goal

abbrev pub invariant-loop-rest : goal.invariant-loop-rest
invariant-loop-rest l = style_of l.rest ≡ style_of l.body

abbrev pub decreases-loop-rest : goal.decreases-loop-rest
decreases-loop-rest l = length l.rest
