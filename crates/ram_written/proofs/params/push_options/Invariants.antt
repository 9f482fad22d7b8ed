use Rattle.std.proofs.Common.{◌≡◌, ◌++◌, length}
use Rattle.ram_written.specs.Params as written
use Rattle.ram_written.proofs.params.push_options.Given as goal

abbrev pub invariant-loop-rest : goal.invariant-loop-rest
invariant-loop-rest l = l.list.items ++ written.option_params l.rest ≡ l.initial.list.items ++ written.option_params l.fn.options

abbrev pub decreases-loop-rest : goal.decreases-loop-rest
decreases-loop-rest l = length l.rest
