use Rattle.std.proofs.Common.{◌≡◌, ◌++◌, map, length}
use Rattle.net_draft.specs.Cells as spec
use Rattle.net_draft.proofs.cells.push_pins.Given as goal

abbrev pub invariant-loop-rest : goal.invariant-loop-rest
invariant-loop-rest l = l.lines.items ++ map (λ p. spec.pin_line l.sheet p) l.rest ≡ l.initial.lines.items ++ map (λ p. spec.pin_line l.sheet p) l.fn.pins

abbrev pub decreases-loop-rest : goal.decreases-loop-rest
decreases-loop-rest l = length l.rest
