use Rattle.net_fits.proofs.OneDriver as one
use Rattle.net_fits.proofs.Solved.{Following, solved}
use Rattle.net_fits.proofs.drivers.solved_drivers.Goals as goal

pub returns : goal.returns
returns c =
    let f : Following = record { solves = c.resolved_solves.ensures; order = c.resolved_in_order.ensures } in
    λ modules x m places count roots starts rams sound s are.
    one.solved_drivers c.tables_fit.ensures c.places_within.ensures c.places_in_order.ensures c.wires_are_there.ensures modules x m places count roots starts rams sound (solved f x m places count s) are
