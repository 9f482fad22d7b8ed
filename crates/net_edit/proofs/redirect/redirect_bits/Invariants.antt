use Rattle.std.proofs.Common.{◌≡◌, ◌++◌, map, take, drop}
use Rattle.net_edit.specs.Redirect.{bit_read}
use Rattle.net_edit.proofs.redirect.redirect_bits.Given as goal

abbrev pub invariant-loop-bit : goal.invariant-loop-bit
invariant-loop-bit l = l.bit-items ≡ map (bit_read l.reads) (take l.bit-index l.initial.bit-items) ++ drop l.bit-index l.initial.bit-items
