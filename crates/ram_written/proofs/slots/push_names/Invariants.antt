use Rattle.std.proofs.Common.{◌≡◌, ◌++◌, length}
use Rattle.ram_written.specs.Params as written
use Rattle.ram_written.proofs.slots.push_names.Given as goal

abbrev pub invariant-loop-rest : goal.invariant-loop-rest
invariant-loop-rest l = l.list.items ++ written.names_params l.variant l.group l.rest l.left ≡ l.initial.list.items ++ written.names_params l.fn.variant l.fn.group l.fn.names l.fn.slots

abbrev pub decreases-loop-rest : goal.decreases-loop-rest
decreases-loop-rest l = length l.rest
