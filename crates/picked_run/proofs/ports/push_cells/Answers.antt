use Rattle.std.proofs.Common.{not, ◌++◌, ap, ◌∙◌, arith}
use Rattle.std.specs.List.{filter}
use Rattle.net_core.specs.Ports.{reading_bits, bits_of_pins}
use Rattle.picked_run.proofs.Pushing.{flat_more}
use Rattle.picked_run.proofs.ports.push_cells.Goals as goal

pub loop-cell-preserved : goal.loop-cell-preserved
loop-cell-preserved c =
    let i = c.loop-cell.cell-index in
    let pushed = c.in_ok-push_pins.ensures ∙ ap (λ ps. c.loop-cell.bits.items ++ bits_of_pins (filter (λ p. not p.drives) ps)) c.as_slice.ensures in
    flat_more reading_bits c.args.cells.now i c.cell-item.result c.loop-cell.bits.items c.push_pins.new.bits.items _ (omega arith) c.cell-item.is pushed c.loop-cell.invariant
