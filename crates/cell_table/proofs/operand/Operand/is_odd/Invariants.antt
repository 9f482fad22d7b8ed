use Rattle.std.proofs.Common.{◌≡◌, drop}
use Rattle.net_core.specs.Logic.{xor, is_odd}
use Rattle.cell_table.proofs.operand.Operand.is_odd.Given as goal

abbrev pub invariant-loop-place : goal.invariant-loop-place
invariant-loop-place l = xor l.odd (is_odd (drop l.place l.self)) ≡ is_odd l.self
