use Rattle.std.proofs.Common.{◌≡◌, length}
use Rattle.std.specs.List.{flat_map}
use Rattle.net_core.specs.Ports.{read_clock}
use Rattle.stim_text.specs.Inputs.{with_roots}
use Rattle.stim_text.proofs.roots.Roots.add_reads.Given as goal

abbrev pub invariant-loop-rest : goal.invariant-loop-rest
invariant-loop-rest l = with_roots l.self (flat_map (λ r. read_clock r.clock) l.rest) ≡ with_roots l.initial.self (flat_map (λ r. read_clock r.clock) l.reads)

abbrev pub decreases-loop-rest : goal.decreases-loop-rest
decreases-loop-rest l = length l.rest
