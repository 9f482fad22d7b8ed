use Rattle.std.proofs.Common.{◌≡◌}
use Rattle.net_edit.specs.Names.{marked}
use Rattle.net_edit.proofs.naming.marked.Given as goal

abbrev pub invariant-loop-count : goal.invariant-loop-count
invariant-loop-count l = l.text.items ≡ marked l._count
