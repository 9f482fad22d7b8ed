use Rattle.std.proofs.Common.{◌≡◌, ◌++◌, ◌≤◌, ◌+◌, length}
use Rattle.lib_judge.specs.Sketch.{items_from}
use Rattle.lib_judge.proofs.sketch.items_of.Given as goal

abbrev pub invariant-loop-rest : goal.invariant-loop-rest
invariant-loop-rest l = record { same : l.items.items ++ items_from l.of_ram l.off l.rest ≡ items_from l.of_ram 0 l.body; off : l.off + length l.rest ≤ length l.body }

abbrev pub decreases-loop-rest : goal.decreases-loop-rest
decreases-loop-rest l = length l.rest
