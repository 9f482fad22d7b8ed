use Rattle.std.proofs.Common.{◌≡◌, drop, min, ◌^◌, ◌-◌}
use Rattle.net_core.specs.Values.{number_of}
use Rattle.cell_table.proofs.operand.Operand.number.Given as goal

abbrev pub invariant-loop-place : goal.invariant-loop-place
invariant-loop-place l = l.number ≡ min (number_of (drop l.place l.self)) (2 ^ 64 - 1)
