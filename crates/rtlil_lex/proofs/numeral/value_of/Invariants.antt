use Rattle.std.proofs.Common.{◌≡◌, ◌^◌, min, take}
use Rattle.rtlil_lex.specs.Values.{value_of}
use Rattle.rtlil_lex.proofs.numeral.value_of.Given as goal

abbrev pub invariant-loop-b : goal.invariant-loop-b
invariant-loop-b l = l.value ≡ min (value_of (take l.b-index l.digits)) (2 ^ 32)
