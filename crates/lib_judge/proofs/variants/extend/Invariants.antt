use Rattle.std.proofs.Common.{◌≡◌, ◌++◌, length}
use Rattle.std.specs.List.{flat_map}
use Rattle.lib_judge.specs.Variants.{row_with}
use Rattle.lib_judge.proofs.variants.extend.Given as goal

abbrev pub invariant-loop-rest : goal.invariant-loop-rest
invariant-loop-rest l = l.longer.items ++ flat_map (row_with l.axis) l.rest ≡ flat_map (row_with l.axis) l.rows

abbrev pub decreases-loop-rest : goal.decreases-loop-rest
decreases-loop-rest l = length l.rest
