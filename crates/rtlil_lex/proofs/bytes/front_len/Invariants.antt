use Rattle.std.proofs.Common.{◌≡◌, ◌+◌, drop}
use Rattle.std.specs.List.{prefix_len}
use Rattle.rtlil_lex.specs.Bytes.{is_in}
use Rattle.rtlil_lex.proofs.bytes.front_len.Given as goal

abbrev pub invariant-loop-i : goal.invariant-loop-i
invariant-loop-i l = prefix_len (is_in l.class) l.bytes ≡ l.i + prefix_len (is_in l.class) (drop l.i l.bytes)
