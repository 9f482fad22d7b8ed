use Rattle.std.proofs.Common.{sym}
use Rattle.cell_rows.proofs.Placing.{there, added}
use Rattle.cell_rows.proofs.places.note.Goals as goal

pub returns-then-contains_key : goal.returns-then-contains_key
returns-then-contains_key c = there c.args.name.now c.args.place c.args.places.now.entries (sym c.if-contains_key.ensures)

pub returns : goal.returns
returns c = added c.args.name.now _ c.args.place c.args.places.now.entries c.insert.new.self.entries (sym c.if-contains_key.ensures) c.in_ok-copy.ensures c.in_ok-insert.ensures.updates.0
