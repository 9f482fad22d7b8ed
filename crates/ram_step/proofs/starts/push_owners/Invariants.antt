use Rattle.std.proofs.Common.{◌≡◌, ◌++◌}
use Rattle.ram_step.specs.Owners.{so_many}
use Rattle.ram_step.proofs.starts.push_owners.Given as goal

abbrev pub invariant-loop : goal.invariant-loop
invariant-loop l = l.list.items ≡ l.initial.list.items ++ so_many l.counter l.number
