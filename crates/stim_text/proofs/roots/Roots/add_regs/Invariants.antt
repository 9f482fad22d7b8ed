use Rattle.std.proofs.Common.{◌≡◌, length, map}
use Rattle.stim_text.specs.Inputs.{with_roots}
use Rattle.stim_text.proofs.roots.Roots.add_regs.Given as goal

abbrev pub invariant-loop-rest : goal.invariant-loop-rest
invariant-loop-rest l = with_roots l.self (map (λ r. r.clock) l.rest) ≡ with_roots l.initial.self (map (λ r. r.clock) l.regs)

abbrev pub decreases-loop-rest : goal.decreases-loop-rest
decreases-loop-rest l = length l.rest
