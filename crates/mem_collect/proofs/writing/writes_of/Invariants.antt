use Rattle.std.proofs.Common.{◌≡◌, ◌++◌, length, map}
use Rattle.mem_collect.specs.Unpacked as unpacked
use Rattle.mem_collect.proofs.writing.writes_of.Given as goal

abbrev pub invariant-loop-rest : goal.invariant-loop-rest
invariant-loop-rest l =
    l.writes.items ++ map (λ s. unpacked.write_of l.row l.writing l.spans s) l.rest ≡ map (λ s. unpacked.write_of l.fn.row l.fn.writing l.fn.spans s) l.fn.spans

abbrev pub decreases-loop-rest : goal.decreases-loop-rest
decreases-loop-rest l = length l.rest
