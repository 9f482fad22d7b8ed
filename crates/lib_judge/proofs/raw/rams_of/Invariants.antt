use Rattle.std.proofs.Common.{◌≡◌, ◌++◌, length}
use Rattle.lib_judge.specs.Raw.{rams_of}
use Rattle.lib_judge.proofs.raw.rams_of.Given as goal

abbrev pub invariant-loop-rest : goal.invariant-loop-rest
invariant-loop-rest l = l.rams.items ++ rams_of l.rest ≡ rams_of l.statements

abbrev pub decreases-loop-rest : goal.decreases-loop-rest
decreases-loop-rest l = length l.rest
