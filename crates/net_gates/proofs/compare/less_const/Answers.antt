use Rattle.std.proofs.Common.{[], subst}
use Rattle.net_core.specs.declared.cells.CombKind.TheVariants.{Lt}
use Rattle.net_gates.specs.Cells.{AddsLogic}
use Rattle.net_gates.proofs.Numbers.{less_adds}
use Rattle.net_gates.proofs.compare.less_const.Goals as goal

pub returns-clause-adds : goal.returns-clause-adds
returns-clause-adds c =
    let logic = subst (λ l. AddsLogic c.args.edit.now c.gate.new.edit Lt l c.in_ok-right.right [] 1) c.in_ok-left.ensures c.in_ok-y.ensures.cell in
    less_adds c.args.edit.now c.gate.new.edit c.args.bits.now c.in_ok-right.right c.args.number c.in_ok-y.y c.in_ok-y.ensures.net c.in_ok-right.ensures c.requires logic
