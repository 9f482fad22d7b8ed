use Rattle.std.proofs.Common.{◌≡◌, ◌+◌, ◌-◌}
use Rattle.std.specs.Prelude.{nat_lt}
use Rattle.net_core.specs.Logic.{is_less}
use Rattle.cell_table.proofs.Numbers.{number_from, order_bit, worth}
use Rattle.cell_table.proofs.arithmetic.is_less.Given as goal

abbrev pub invariant-loop-place : goal.invariant-loop-place
invariant-loop-place l =
    nat_lt (number_from (order_bit l.signed l.a l.width) l.place (l.width - l.place)) (number_from (order_bit l.signed l.b l.width) l.place (l.width - l.place) + worth l.less) ≡ is_less l.signed l.a l.b
