use Rattle.std.proofs.Common.{◌≡◌, length}
use Rattle.net_collect.specs.Contents as spec
use Rattle.net_collect.proofs.contents.put_cells.Given as goal

abbrev pub invariant-loop-rest : goal.invariant-loop-rest
invariant-loop-rest l = spec.put_cells l.mem l.rest l.table.items ≡ spec.put_cells l.fn.mem l.fn.cells l.initial.table.items

abbrev pub decreases-loop-rest : goal.decreases-loop-rest
decreases-loop-rest l = length l.rest
