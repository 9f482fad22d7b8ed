use Rattle.std.proofs.Common.{◌≡◌, take}
use Rattle.std.specs.List.{flat_map}
use Rattle.rtlil_print.specs.Print.{module_text}
use Rattle.rtlil_print.proofs.print.document_text.Given as goal

abbrev pub invariant-loop-each : goal.invariant-loop-each
invariant-loop-each l = l.text.items ≡ flat_map module_text (take l.each-index l.each-items)
