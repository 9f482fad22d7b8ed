use Rattle.std.proofs.Common.{◌≡◌, ◌++◌, length}
use Rattle.ram_written.specs.Params as written
use Rattle.ram_written.proofs.slots.push_slot_options.Given as goal

abbrev pub invariant-loop-rest : goal.invariant-loop-rest
invariant-loop-rest l = l.list.items ++ written.slot_option_params l.slot l.rest ≡ l.initial.list.items ++ written.slot_option_params l.fn.slot l.fn.options

abbrev pub decreases-loop-rest : goal.decreases-loop-rest
decreases-loop-rest l = length l.rest
