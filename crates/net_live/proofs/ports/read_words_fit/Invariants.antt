use Rattle.std.proofs.Common.{◌≡◌, ◌+◌, ◌^◌, ◌≤◌, length}
use Rattle.std.specs.List.{sum_by}
use Rattle.net_core.specs.declared.mems.RdPort.{RdPort}
use Rattle.net_live.proofs.ports.read_words_fit.Given as goal

abbrev pub invariant-loop-rest : goal.invariant-loop-rest
invariant-loop-rest l = (sum_by (λ (x : RdPort). 2 ^ x.wide) l.reads + l.left ≡ 64 + sum_by (λ (x : RdPort). 2 ^ x.wide) l.rest) × (l.left ≤ 64)

abbrev pub decreases-loop-rest : goal.decreases-loop-rest
decreases-loop-rest l = length l.rest
