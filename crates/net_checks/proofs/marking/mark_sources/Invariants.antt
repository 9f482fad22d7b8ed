use Rattle.std.proofs.Common.{◌≡◌, length}
use Rattle.net_checks.specs.Marks.{mark_sources}
use Rattle.net_checks.proofs.marking.mark_sources.Given as goal

abbrev pub invariant-loop-rest : goal.invariant-loop-rest
invariant-loop-rest l = mark_sources l.marks.items l.rest ≡ mark_sources l.initial.marks.items l.sources

abbrev pub decreases-loop-rest : goal.decreases-loop-rest
decreases-loop-rest l = length l.rest
