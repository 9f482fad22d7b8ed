use Rattle.std.proofs.Common.{◌++◌, ap, ◌∙◌, arith}
use Rattle.std.specs.List.{filter}
use Rattle.net_core.specs.Ports.{nets_of, driving_bits, bits_of_pins}
use Rattle.net_core.proofs.Netlists.{flat_more}
use Rattle.net_core.proofs.ports.push_cells.Goals as goal

pub loop-cell-preserved : goal.loop-cell-preserved
loop-cell-preserved c =
    let i = c.loop-cell.cell-index in
    let pushed = c.in_ok-push_pins.ensures ∙ ap (λ ps. c.loop-cell.nets.items ++ nets_of (bits_of_pins (filter (λ p. p.drives) ps))) c.as_slice.ensures in
    flat_more driving_bits c.args.cells.now i c.cell-item.result c.loop-cell.nets.items c.push_pins.new.nets.items _ (omega arith) c.cell-item.is pushed c.loop-cell.invariant
