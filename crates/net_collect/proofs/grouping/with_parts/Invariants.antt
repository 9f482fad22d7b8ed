use Rattle.std.proofs.Common.{◌≡◌}
use Rattle.std.specs.Vec.Iter.{into_iter_items}
use Rattle.cell_rows.specs.Kinds.{found}
use Rattle.net_collect.specs.Grouping as spec
use Rattle.net_collect.proofs.grouping.with_parts.Given as goal

abbrev pub invariant-loop-part : goal.invariant-loop-part
invariant-loop-part l = spec.with_parts (λ n. found l.places n) l.groups (into_iter_items l.part-iterator) ≡ spec.with_parts (λ n. found l.fn.places n) l.fn.groups l.fn.parts
