use Rattle.std.proofs.Common.{◌≡◌, ◌++◌, map, take}
use Rattle.rtlil_lex.specs.Values.{digit_of}
use Rattle.rtlil_lex.proofs.numeral.push_digits.Given as goal

abbrev pub invariant-loop-b : goal.invariant-loop-b
invariant-loop-b l = l.fitted.items ≡ l.fn.fitted.items ++ map digit_of (take l.b-index l.digits)
