use Rattle.std.proofs.Common.{◌≡◌, ◌++◌, take}
use Rattle.std.specs.List.{flat_map}
use Rattle.rtlil_lex.specs.Spelling.{escape}
use Rattle.rtlil_lex.proofs.print.push_all_escaped.Given as goal

abbrev pub invariant-loop-b : goal.invariant-loop-b
invariant-loop-b l = l.text.items ≡ l.fn.text.items ++ flat_map escape (take l.b-index l.bytes)
