use Rattle.std.proofs.Common.{length, true, false, arith}
use Rattle.std.specs.Prelude.{max}
use Rattle.net_core.specs.Logic.{extended, is_equal}
use Rattle.cell_table.proofs.Numbers.{same_next, not_not}
use Rattle.cell_table.proofs.arithmetic.is_equal.Goals as goal

pub loop-place-preserved : goal.loop-place-preserved
loop-place-preserved c =
    let a = c.args.a.now in
    let b = c.args.b.now in
    same_next (extended c.args.signed a) (extended c.args.signed b) c.extended.result c.extended-in-loop-place.result true (is_equal c.args.signed a b) (max (length a) (length b)) c.loop-place.place
    (omega arith) c.extended.ensures c.extended-in-loop-place.ensures (not_not _ true c.if-extended.false) c.loop-place.invariant

pub returns-then-extended : goal.returns-then-extended
returns-then-extended c =
    let a = c.args.a.now in
    let b = c.args.b.now in
    same_next (extended c.args.signed a) (extended c.args.signed b) c.extended.result c.extended-in-loop-place.result false (is_equal c.args.signed a b) (max (length a) (length b)) c.loop-place.place
    (omega arith) c.extended.ensures c.extended-in-loop-place.ensures (not_not _ false c.if-extended.true) c.loop-place.invariant
