use Rattle.std.proofs.Common.{◌≡◌, ◌++◌, length, map}
use Rattle.mem_collect.specs.Unpacked as unpacked
use Rattle.mem_collect.proofs.writing.priorities.Given as goal

abbrev pub invariant-loop-rest : goal.invariant-loop-rest
invariant-loop-rest l =
    l.bits.items ++ map (λ w. unpacked.wins l.row l.prio l.span w) l.rest ≡ map (λ w. unpacked.wins l.fn.row l.fn.prio l.fn.span w) l.fn.writes

abbrev pub decreases-loop-rest : goal.decreases-loop-rest
decreases-loop-rest l = length l.rest
