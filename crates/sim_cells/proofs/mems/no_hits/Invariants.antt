use Rattle.std.proofs.Common.{◌≡◌, length}
use Rattle.sim_cells.proofs.mems.no_hits.Given as goal

abbrev pub invariant-loop : goal.invariant-loop
invariant-loop l = length l.list.items ≡ l.counter
