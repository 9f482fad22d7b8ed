use Rattle.std.proofs.Common.{◌-◌, ◌^◌, ◌∙◌, ap, arith}
use Rattle.std.specs.Int.{from_bool}
use Rattle.cell_table.proofs.Operands.{number_more}
use Rattle.cell_table.proofs.operand.Operand.number.Goals as goal

pub loop-place-preserved : goal.loop-place-preserved
loop-place-preserved c =
    number_more c.args.self.now (c.loop-place.place - 1) c.loop-place.place c.loop-place.number (2 ^ 64 - 1) c.saturating_mul.result c.from.result c.saturating_add-number.result
    (omega arith) (omega arith) c.loop-place.invariant c.saturating_mul.ensures (c.from.ensures ∙ ap from_bool c.bit.ensures) c.saturating_add-number.ensures
