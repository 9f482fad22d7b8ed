use Rattle.std.proofs.Common.{◌≡◌, map, take}
use Rattle.rtlil_text.specs.Grammar.{module_name}
use Rattle.net_checks.proofs.inouts.module_names.Given as goal

abbrev pub invariant-loop-doc : goal.invariant-loop-doc
invariant-loop-doc l = l.names.items ≡ map module_name (take l.doc-index l.modules)
