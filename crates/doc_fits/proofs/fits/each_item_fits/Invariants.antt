use Rattle.std.proofs.Common.{◌≡◌, length}
use Rattle.std.specs.List.{list_all}
use Rattle.doc_fits.specs.Tests.{item_fits}
use Rattle.doc_fits.proofs.fits.each_item_fits.Given as goal

abbrev pub invariant-loop-rest : goal.invariant-loop-rest
invariant-loop-rest l = list_all (λ x. item_fits x) l.rest ≡ list_all (λ x. item_fits x) l.items

abbrev pub decreases-loop-rest : goal.decreases-loop-rest
decreases-loop-rest l = length l.rest
