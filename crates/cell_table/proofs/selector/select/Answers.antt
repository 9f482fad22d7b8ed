use Rattle.std.proofs.Common.{◌≡◌, ◌+◌, drop, ap, sym, ◌∙◌, arith}
use Rattle.net_core.specs.Logic.{set_places}
use Rattle.cell_table.specs.Selection.{selection_of}
use Rattle.cell_table.proofs.Selecting.{joined, joined_set, joined_clear}
use Rattle.cell_table.proofs.selector.select.Goals as goal
use Rattle.cell_table.proofs.selector.select.Goals.{then-bit, else-bit}

pub loop-place-preserved : goal.loop-place-preserved
loop-place-preserved c =
    let xs = c.args.selectors.now in
    let at = c.loop-place.place in
    let next : joined c.if-bit.selection (set_places (drop (at + 1) xs) (at + 1)) ≡ selection_of (set_places xs 0) = elim c.if-bit.branch [
      | then-bit w ↦ ap (λ s. joined s (set_places (drop (at + 1) xs) (at + 1))) (w.selection-is ∙ w.with-selection.ensures) ∙ joined_set c.loop-place.selection _ xs at (omega arith) (sym c.bit.ensures ∙ w.if-bit.true) c.loop-place.invariant
      | else-bit w ↦ ap (λ s. joined s (set_places (drop (at + 1) xs) (at + 1))) w.selection-is ∙ joined_clear c.loop-place.selection _ xs at (omega arith) (sym c.bit.ensures ∙ w.if-bit.false) c.loop-place.invariant
    ] in
    next
