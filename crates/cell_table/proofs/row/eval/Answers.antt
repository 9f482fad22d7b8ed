use Rattle.std.proofs.Common.{◌++◌, List, subst}
use Rattle.net_core.specs.Nodes.{HasNet}
use Rattle.net_core.specs.declared.bits.Bit.{Bit}
use Rattle.cell_table.proofs.Rows.{net_left, net_right}
use Rattle.cell_table.proofs.row.eval.Goals as goal

pub new-a-requires : goal.new-a-requires
new-a-requires c = λ n has.
    let cell = c.args.cell.now in
    let Has : List Bit → Type 0 = λ bits. HasNet bits n in
    c.requires.nets n (net_left (cell.a ++ cell.b) cell.s n (net_left cell.a cell.b n (subst Has c.as_slice.ensures has)))

pub new-b-requires : goal.new-b-requires
new-b-requires c = λ n has.
    let cell = c.args.cell.now in
    let Has : List Bit → Type 0 = λ bits. HasNet bits n in
    c.requires.nets n (net_left (cell.a ++ cell.b) cell.s n (net_right cell.a cell.b n (subst Has c.as_slice-2.ensures has)))

pub new-s-requires : goal.new-s-requires
new-s-requires c = λ n has.
    let cell = c.args.cell.now in
    let Has : List Bit → Type 0 = λ bits. HasNet bits n in
    c.requires.nets n (net_right (cell.a ++ cell.b) cell.s n (subst Has c.as_slice-3.ensures has))
