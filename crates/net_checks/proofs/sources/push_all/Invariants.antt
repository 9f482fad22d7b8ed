use Rattle.std.proofs.Common.{◌≡◌, ◌++◌, take}
use Rattle.net_checks.proofs.sources.push_all.Given as goal

abbrev pub invariant-loop-bit : goal.invariant-loop-bit
invariant-loop-bit l = l.bits.items ≡ l.initial.bits.items ++ take l.bit-index l.more
