use Rattle.std.proofs.Common.{ℕ, length}
use Rattle.std.specs.List.{flat_map}
use Rattle.net_same.specs.Nets.{sent}
use Rattle.net_same.specs.Own.{wire_nets}
use Rattle.net_same.specs.Learning.{AreMet}
use Rattle.net_same.specs.Same.{WiresSame}
use Rattle.net_same.proofs.wires.wires_are_same.Given as goal

abbrev pub invariant-loop-lefts : goal.invariant-loop-lefts
invariant-loop-lefts l = record {
  sound : WiresSame (sent l.tables) l.lefts l.rights → WiresSame (sent l.tables) l.olds l.news;
  met : (f : ℕ → ℕ) → AreMet f l.tables (flat_map wire_nets l.olds) → AreMet f l.tables (flat_map wire_nets l.lefts);
  same : (f : ℕ → ℕ) → WiresSame f l.olds l.news → WiresSame f l.lefts l.rights;
}

abbrev pub decreases-loop-lefts : goal.decreases-loop-lefts
decreases-loop-lefts l = length l.lefts
