use Rattle.std.proofs.Common.{◌≡◌, ◌++◌, map, take}
use Rattle.rtlil_lex.specs.Spelling.{digit_byte}
use Rattle.rtlil_lex.proofs.print.push_digits.Given as goal

abbrev pub invariant-loop-digit : goal.invariant-loop-digit
invariant-loop-digit l = l.text.items ≡ l.fn.text.items ++ map digit_byte (take l.digit-index l.digits)
