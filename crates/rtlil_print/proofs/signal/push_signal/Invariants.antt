use Rattle.std.proofs.Common.{◌≡◌, ◌++◌, take}
use Rattle.std.specs.List.{flat_map}
use Rattle.rtlil_print.specs.Print.{part_text}
use Rattle.rtlil_print.proofs.signal.push_signal.Given as goal

abbrev pub invariant-loop-part : goal.invariant-loop-part
invariant-loop-part l = l.text.items ≡ l.fn.text.items ++ flat_map part_text (take l.part-index l.parts)
