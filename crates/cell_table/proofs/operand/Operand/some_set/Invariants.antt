use Rattle.std.proofs.Common.{◌≡◌, drop}
use Rattle.net_core.specs.Logic.{some_set}
use Rattle.cell_table.proofs.operand.Operand.some_set.Given as goal

abbrev pub invariant-loop-place : goal.invariant-loop-place
invariant-loop-place l = some_set (drop l.place l.self) ≡ some_set l.self
