use Rattle.std.proofs.Common.{◌≡◌, drop}
use Rattle.net_cells.specs.Wires as wires
use Rattle.net_cells.proofs.starts.inits_of.Given as goal

abbrev pub invariant-loop-place : goal.invariant-loop-place
invariant-loop-place l = l.inits.items ≡ wires.inits_of (drop l.place l.attrs) l.width
