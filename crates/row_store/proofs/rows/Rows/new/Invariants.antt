use Rattle.std.proofs.Common.{◌≡◌, map}
use Rattle.std.specs.List.{All, range_with_len}
use Rattle.row_store.specs.Rows.{row_in, row_cut, IsPacked}
use Rattle.row_store.proofs.rows.Rows.new.Given as goal

abbrev pub invariant-loop-row : goal.invariant-loop-row
invariant-loop-row g l = (map (λ r. row_in l.width r.values r.known) l.rows.items ≡ map (row_cut l.init l.width) (range_with_len 0 l.row)) × All (λ r. IsPacked l.width r.values r.known) l.rows.items
