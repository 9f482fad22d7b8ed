use Rattle.std.proofs.Common.{◌≡◌, ◌+◌, drop}
use Rattle.std.specs.List.{prefix_len}
use Rattle.lib_tree.specs.Lex.{is_in}
use Rattle.lib_tree.proofs.lex.front_len.Given as goal

abbrev pub invariant-loop-i : goal.invariant-loop-i
invariant-loop-i l = prefix_len (is_in l.class) l.bytes ≡ l.i + prefix_len (is_in l.class) (drop l.i l.bytes)
