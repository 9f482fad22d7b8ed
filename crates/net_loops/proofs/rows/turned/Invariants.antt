use Rattle.std.proofs.Common.{◌≡◌, length}
use Rattle.net_loops.proofs.Turning.{TurnedFirst}
use Rattle.net_loops.proofs.rows.turned.Given as goal

abbrev pub invariant-loop-place : goal.invariant-loop-place
invariant-loop-place l = (length l.turned.items ≡ l.fn.count) × TurnedFirst l.rows l.turned.items l.place
