use Rattle.std.proofs.Common.{◌≡◌, ◌-◌}
use Rattle.std.specs.List.{list_all, range_with_len}
use Rattle.geom_core.specs.Layout.{same_enable}
use Rattle.geom_core.proofs.spreads.same_in_rows.Given as goal

abbrev pub invariant-loop-row : goal.invariant-loop-row
invariant-loop-row l = list_all (same_enable l.mem l.fold l.write l.p l.q) (range_with_len l.row (l.rows - l.row)) ≡ list_all (same_enable l.mem l.fold l.write l.p l.q) (range_with_len 0 l.rows)
