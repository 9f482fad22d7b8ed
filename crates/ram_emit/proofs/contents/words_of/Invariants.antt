use Rattle.std.proofs.Common.{◌≡◌, ◌/◌, ◌%◌, map}
use Rattle.std.specs.List.{range_with_len}
use Rattle.ram_emit.specs.Cell as spec
use Rattle.ram_emit.proofs.contents.words_of.Given as goal

abbrev pub invariant-loop-place : goal.invariant-loop-place
invariant-loop-place l = l.bits.items ≡ map (λ p. spec.start_bit l.variant l.mem (p / l.width) (p % l.width)) (range_with_len 0 l.place)
