use Rattle.std.proofs.Common.{◌≡◌, drop}
use Rattle.std.specs.List.{list_all}
use Rattle.geom_core.specs.Layout.{same_in_write}
use Rattle.geom_core.proofs.spreads.same_enables.Given as goal

abbrev pub invariant-loop-write : goal.invariant-loop-write
invariant-loop-write l = list_all (same_in_write l.mem l.fold l.p l.q) (drop l.write-index l.mem.writes) ≡ list_all (same_in_write l.mem l.fold l.p l.q) l.mem.writes
