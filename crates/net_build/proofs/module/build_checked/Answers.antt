use Rattle.std.proofs.Common.{List, subst}
use Rattle.net_wires.specs.declared.clock.ClockRoot.{ClockRoot}
use Rattle.raw_cells.specs.declared.raw.RawCell.{RawCell}
use Rattle.net_module.specs.Nodes.{Assembles}
use Rattle.net_build.specs.Steps.{Orders}
use Rattle.net_build.proofs.Built.{ordered}
use Rattle.net_build.proofs.module.build_checked.Goals as goal

pub returns-in-Ok : goal.returns-in-Ok
returns-in-Ok c =
    let a = c.args.around.now in
    let d = c.args.doc.now in
    let made = c.args.checked.now in
    let b = c.in-Ok.assembled in
    ordered a d c.args.gathered.now made b c.order_module.result c.requires
    (subst (λ (cs : List RawCell). Assembles a.library.now made.places made.roots d cs b) c.as_slice-cells.ensures (subst (λ (rs : List ClockRoot). Assembles a.library.now made.places rs d c.as_slice-cells.result.now b) c.as_slice.ensures c.in-Ok.ensures))
    (subst (λ (cs : List RawCell). Orders cs b c.order_module.result) c.as_slice-cells.ensures c.order_module.ensures)
