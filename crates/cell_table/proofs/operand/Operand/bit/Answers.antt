use Rattle.cell_table.proofs.Operands.{has_net}
use Rattle.cell_table.proofs.operand.Operand.bit.Goals as goal

pub value-requires : goal.value-requires
value-requires c = λ n is_net. c.self.invariant n (has_net c.self.inside.bits.now c.args.place n c.in-Some.bit.now c.in-Some.ensures.lookup.3.0 c.in-Some.ensures.lookup.1 is_net)
