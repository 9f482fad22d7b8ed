use Rattle.std.proofs.Common.{◌≡◌, ◌++◌}
use Rattle.mem_pack.specs.Numbers as table
use Rattle.mem_pack.proofs.numbers.push_rows.Given as goal

abbrev pub invariant-loop-left : goal.invariant-loop-left
invariant-loop-left l = l.list.items ++ table.copies l.left (table.each_number l.wides l.row) ≡ l.initial.list.items ++ table.copies l.fn.count (table.each_number l.fn.wides l.fn.row)

abbrev pub decreases-loop-left : goal.decreases-loop-left
decreases-loop-left l = l.left
