use Rattle.std.proofs.Common.{◌≡◌, length}
use Rattle.std.specs.List.{list_all}
use Rattle.doc_fits.specs.Tests.{module_fits}
use Rattle.doc_fits.proofs.fits.each_module_fits.Given as goal

abbrev pub invariant-loop-rest : goal.invariant-loop-rest
invariant-loop-rest l = list_all (λ x. module_fits x) l.rest ≡ list_all (λ x. module_fits x) l.modules

abbrev pub decreases-loop-rest : goal.decreases-loop-rest
decreases-loop-rest l = length l.rest
