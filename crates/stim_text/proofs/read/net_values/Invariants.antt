use Rattle.std.proofs.Common.{◌≡◌, ◌++◌, length}
use Rattle.stim_text.specs.Stimulus.{net_values}
use Rattle.stim_text.proofs.read.net_values.Given as goal

abbrev pub invariant-loop-rest : goal.invariant-loop-rest
invariant-loop-rest l = l.list.items ++ net_values l.rest l.others ≡ net_values l.bits l.values

abbrev pub decreases-loop-rest : goal.decreases-loop-rest
decreases-loop-rest l = length l.rest
