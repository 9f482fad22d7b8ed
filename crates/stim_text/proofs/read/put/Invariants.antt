use Rattle.std.proofs.Common.{◌≡◌, length}
use Rattle.stim_text.specs.Stimulus.{put}
use Rattle.stim_text.proofs.read.put.Given as goal

abbrev pub invariant-loop-rest : goal.invariant-loop-rest
invariant-loop-rest l = put l.place l.rest l.values ≡ put l.start l.bits l.initial.values

abbrev pub decreases-loop-rest : goal.decreases-loop-rest
decreases-loop-rest l = length l.rest
