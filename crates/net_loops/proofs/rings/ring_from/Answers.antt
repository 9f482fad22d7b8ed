use Rattle.std.proofs.Common.{◌<◌, length, get_or, sym, ap, ◌∙◌, refl, arith}
use Rattle.std.specs.Prelude.{slice_get}
use Rattle.std.proofs.lemmas.Option.{slice_get_read, slice_get-get_or}
use Rattle.net_loops.proofs.Levelling.{off_level, row_below}
use Rattle.net_loops.proofs.rings.ring_from.Goals as goal

pub has_level-requires : goal.has_level-requires
has_level-requires c =
    let is_row = slice_get_read c.args.graph.now (length c.args.graph.now) c.args.node c.index-graph-place.result refl c.requires.within c.index-graph-place.is in
    λ k j h. row_below c.args.graph.now c.args.levels.now c.index-graph-place.result c.args.node c.requires.closed c.requires.levelled is_row k j (ap (λ r. slice_get r k) (sym c.as_slice.ensures) ∙ h)

pub returns-then-not-has_level : goal.returns-then-not-has_level
returns-then-not-has_level c =
    let is_row = slice_get_read c.args.graph.now (length c.args.graph.now) c.args.node c.index-graph-place.result refl c.requires.within c.index-graph-place.is in
    let low : c.args.node < length c.args.levels.now = omega (arith, c.requires.within, c.requires.levelled.count) in
    let at = slice_get-get_or c.args.levels.now c.args.node 0 low in
    off_level c.args.graph.now c.args.levels.now c.args.node (get_or c.args.levels.now c.args.node 0) c.index-graph-place.result c.requires.closed c.requires.levelled at is_row (λ k j h. c.has_level.ensures.none c.if-not-has_level.true k j (ap (λ r. slice_get r k) c.as_slice.ensures ∙ h))
