use Rattle.std.proofs.Common.{◌≡◌, ◌-◌, ◌≤◌, ◌++◌}
use Rattle.mem_pack.specs.Numbers as table
use Rattle.mem_pack.proofs.numbers.push_addresses.Given as goal

abbrev pub invariant-loop-place : goal.invariant-loop-place
invariant-loop-place l = (l.list.items ++ table.addresses_from l.wide l.addr l.place (l.words - l.place) ≡ l.initial.list.items ++ table.addresses_from l.fn.wide l.fn.addr 0 l.words) × (l.place ≤ l.words)

abbrev pub decreases-loop-place : goal.decreases-loop-place
decreases-loop-place l = l.words - l.place
