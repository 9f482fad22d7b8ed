use Rattle.std.proofs.Common.{◌≡◌, length}
use Rattle.std.specs.List.{flat_map}
use Rattle.net_core.specs.Ports.{ram_clocks}
use Rattle.stim_text.specs.Inputs.{with_roots}
use Rattle.stim_text.proofs.roots.Roots.add_rams.Given as goal

abbrev pub invariant-loop-rest : goal.invariant-loop-rest
invariant-loop-rest l = with_roots l.self (flat_map ram_clocks l.rest) ≡ with_roots l.initial.self (flat_map ram_clocks l.rams)

abbrev pub decreases-loop-rest : goal.decreases-loop-rest
decreases-loop-rest l = length l.rest
