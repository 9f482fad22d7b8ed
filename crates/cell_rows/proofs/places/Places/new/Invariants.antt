use Rattle.cell_rows.proofs.Placing.{Noted}
use Rattle.cell_rows.proofs.places.Places.new.Given as goal

abbrev pub invariant-loop-name : goal.invariant-loop-name
invariant-loop-name l = Noted l.names l.name-index l.place l.places.entries
