use Rattle.net_fits.proofs.Ends as ends
use Rattle.net_fits.proofs.Solved.{Following, solved}
use Rattle.net_fits.proofs.drivers.solved_cells.Goals as goal

pub returns : goal.returns
returns c =
    let f : Following = record { solves = c.resolved_solves.ensures; order = c.resolved_in_order.ensures } in
    λ x m places count s. ends.solved_cells c.places_within.ensures c.places_in_order.ensures c.wires_are_there.ensures x m places count (solved f x m places count s)
