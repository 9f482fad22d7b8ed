use Rattle.std.proofs.Common.{◌≡◌, ◌-◌, length}
use Rattle.std.specs.Prelude.{nat_eq, max}
use Rattle.net_core.specs.Logic.{extended, is_equal}
use Rattle.cell_table.proofs.Numbers.{number_from}
use Rattle.cell_table.proofs.arithmetic.is_equal.Given as goal

abbrev pub invariant-loop-place : goal.invariant-loop-place
invariant-loop-place l =
    let left = max (length l.a) (length l.b) - l.place in
    nat_eq (number_from (extended l.signed l.a) l.place left) (number_from (extended l.signed l.b) l.place left) ≡ is_equal l.signed l.a l.b
