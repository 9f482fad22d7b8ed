use Rattle.std.proofs.Common.{◌≡◌}
use Rattle.plain_bind.specs.Names.{marked}
use Rattle.plain_bind.proofs.naming.marked.Given as goal

abbrev pub invariant-loop-count : goal.invariant-loop-count
invariant-loop-count l = l.text.items ≡ marked l._count
