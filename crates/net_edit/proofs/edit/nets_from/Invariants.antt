use Rattle.std.proofs.Common.{◌≡◌}
use Rattle.net_edit.specs.Edits.{nets_from}
use Rattle.net_edit.proofs.edit.nets_from.Given as goal

abbrev pub invariant-loop-place : goal.invariant-loop-place
invariant-loop-place l = l.nets.items ≡ nets_from l.first l.place
