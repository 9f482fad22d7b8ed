use Rattle.std.proofs.Common.{◌≡◌, [], length}
use Rattle.std.specs.List.{flat_map}
use Rattle.doc_fits.specs.Tests.{are_new, name_of_line, lines_are_new}
use Rattle.doc_fits.proofs.names.lines_are_new.Given as goal

abbrev pub invariant-loop-rest : goal.invariant-loop-rest
invariant-loop-rest l = are_new l.names (flat_map (λ x. name_of_line l.kind x) l.rest) ≡ lines_are_new l.kind l.lines

abbrev pub decreases-loop-rest : goal.decreases-loop-rest
decreases-loop-rest l = length l.rest
