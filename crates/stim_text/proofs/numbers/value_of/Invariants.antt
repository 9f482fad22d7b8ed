use Rattle.std.proofs.Common.{◌≡◌, ◌^◌, min, take}
use Rattle.rtlil_lex.specs.Values.{value_of}
use Rattle.stim_text.proofs.numbers.value_of.Given as goal

abbrev pub invariant-loop-digit : goal.invariant-loop-digit
invariant-loop-digit l = l.value ≡ min (value_of (take l.digit-index l.digits)) (2 ^ 64)
