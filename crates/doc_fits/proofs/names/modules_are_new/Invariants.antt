use Rattle.std.proofs.Common.{◌≡◌, [], length, map}
use Rattle.rtlil_text.specs.Grammar.{module_name}
use Rattle.doc_fits.specs.Tests.{are_new}
use Rattle.doc_fits.proofs.names.modules_are_new.Given as goal

abbrev pub invariant-loop-rest : goal.invariant-loop-rest
invariant-loop-rest l = are_new l.names (map module_name l.rest) ≡ are_new [] (map module_name l.modules)

abbrev pub decreases-loop-rest : goal.decreases-loop-rest
decreases-loop-rest l = length l.rest
