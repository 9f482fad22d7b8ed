use Rattle.std.proofs.Common.{◌≡◌, [], length}
use Rattle.std.specs.List.{flat_map}
use Rattle.doc_fits.specs.Tests.{are_new, name_of_item, items_are_new}
use Rattle.doc_fits.proofs.names.items_are_new.Given as goal

abbrev pub invariant-loop-rest : goal.invariant-loop-rest
invariant-loop-rest l = are_new l.names (flat_map (λ x. name_of_item l.kind x) l.rest) ≡ items_are_new l.kind l.items

abbrev pub decreases-loop-rest : goal.decreases-loop-rest
decreases-loop-rest l = length l.rest
