use Rattle.std.proofs.Common.{◌≡◌, ◌++◌, length, map}
use Rattle.mem_collect.specs.Unpacked as unpacked
use Rattle.mem_collect.proofs.reading.reads_of.Given as goal

abbrev pub invariant-loop-rest : goal.invariant-loop-rest
invariant-loop-rest l =
    l.reads.items ++ map (λ s. unpacked.read_of l.row l.reading l.writes s) l.rest ≡ map (λ s. unpacked.read_of l.fn.row l.fn.reading l.fn.writes s) l.fn.spans

abbrev pub decreases-loop-rest : goal.decreases-loop-rest
decreases-loop-rest l = length l.rest
