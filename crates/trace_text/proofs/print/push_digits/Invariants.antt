use Rattle.std.proofs.Common.{◌≡◌, ◌++◌, take}
use Rattle.trace_text.specs.Trace.{digits}
use Rattle.trace_text.proofs.print.push_digits.Given as goal

abbrev pub invariant-loop-place : goal.invariant-loop-place
invariant-loop-place l = l.text.items ++ digits (take l.place l.bits) ≡ l.initial.text.items ++ digits l.bits
