use Rattle.std.proofs.Common.{◌≡◌, ◌++◌}
use Rattle.std.specs.List.{range_with_len}
use Rattle.ram_emit.proofs.bits.push_nets.Given as goal

abbrev pub invariant-loop-place : goal.invariant-loop-place
invariant-loop-place l = l.nets.items ≡ l.initial.nets.items ++ range_with_len l.next l.place
