use Rattle.std.proofs.Common.{◌≡◌, drop}
use Rattle.net_core.specs.Logic.{all_set}
use Rattle.cell_table.proofs.operand.Operand.all_set.Given as goal

abbrev pub invariant-loop-place : goal.invariant-loop-place
invariant-loop-place l = all_set (drop l.place l.self) ≡ all_set l.self
