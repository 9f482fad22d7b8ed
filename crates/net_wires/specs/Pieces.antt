-- What the pieces stand for of which the code makes a signal.
use Rattle.std.specs.Prelude.{List, map, reverse, drop}
use Rattle.net_wires.specs.declared.piece.Piece.{Piece}
use Rattle.net_wires.specs.declared.piece.Piece.TheVariants as piece
use Rattle.net_wires.specs.declared.piece.Reading.{Reading}
use Rattle.net_wires.specs.declared.source.Source.{Source}
use Rattle.net_wires.specs.Parts.{State}
use Rattle.net_wires.specs.Signals.{run_bits}

abbrev pub piece_bits : Piece → List Source
piece_bits (piece.Run run) = run_bits run.base run.width
piece_bits (piece.Held bits skip) = reverse (drop skip bits.items)

abbrev pub state_of : Reading → State
state_of r = record { outer = map reverse (reverse r.outer.items); before = reverse r.before.items; last = piece_bits r.last }
