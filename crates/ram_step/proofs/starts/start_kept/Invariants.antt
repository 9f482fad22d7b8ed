use Rattle.std.proofs.Common.{◌≡◌, map, take}
use Rattle.ram_step.specs.States.{start_kept}
use Rattle.ram_step.proofs.starts.start_kept.Given as goal

abbrev pub invariant-loop-number : goal.invariant-loop-number
invariant-loop-number g l = l.kept.items ≡ map (start_kept l.ports.variant l.key) (take l.number l.ports.all)
