use Rattle.std.proofs.Common.{arith}
use Rattle.cell_rows.proofs.Placing.{none_noted, one_noted, all_noted}
use Rattle.cell_rows.proofs.places.Places.new.Goals as goal

pub loop-name-init : goal.loop-name-init
loop-name-init c = none_noted c.args.names.now c.new-places.result.entries c.new-places.ensures.empty

pub loop-name-preserved : goal.loop-name-preserved
loop-name-preserved c =
    one_noted c.args.names.now c.loop-name.name-index c.loop-name.place c.in-Some.next c.name-item.result _ c.loop-name.places.entries c.note.new.places.entries
    (omega arith) c.name-item.is c.in-Some.ensures.1 c.in_ok-note.ensures c.loop-name.invariant

pub returns : goal.returns
returns c = all_noted c.args.names.now c.loop-name.name-index c.loop-name.place c.loop-name.places.entries (omega arith) c.loop-name.invariant
