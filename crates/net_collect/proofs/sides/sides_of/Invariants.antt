use Rattle.std.proofs.Common.{◌≡◌}
use Rattle.std.specs.Vec.Iter.{into_iter_items}
use Rattle.net_collect.specs.Sides as spec
use Rattle.net_collect.proofs.sides.sides_of.Given as goal

abbrev pub invariant-loop-piece : goal.invariant-loop-piece
invariant-loop-piece l = spec.sides_from l.sides (into_iter_items l.piece-iterator) ≡ spec.sides_of l.fn.pieces
