use Rattle.std.proofs.Common.{◌≡◌, ◌++◌, drop}
use Rattle.net_collect.specs.Gathered as spec
use Rattle.net_collect.proofs.gathered.ids_of.Given as goal

abbrev pub invariant-loop-cell : goal.invariant-loop-cell
invariant-loop-cell l = l.ids.items ++ spec.ids_of (drop l.cell-index l.cells) ≡ spec.ids_of l.cells
