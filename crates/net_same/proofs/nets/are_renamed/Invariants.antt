use Rattle.std.proofs.Common.{◌≡◌, ℕ, map, length}
use Rattle.std.specs.List.{flat_map}
use Rattle.net_same.specs.Nets.{sent}
use Rattle.net_same.specs.Learning.{AreMet}
use Rattle.net_same.proofs.nets.are_renamed.Given as goal

abbrev pub invariant-loop-lefts : goal.invariant-loop-lefts
invariant-loop-lefts g l = record {
  sound : l.rights ≡ map (g.T.Wired.renamed (sent l.tables)) l.lefts → l.news ≡ map (g.T.Wired.renamed (sent l.tables)) l.olds;
  met : (f : ℕ → ℕ) → AreMet f l.tables (flat_map g.T.Wired.nets l.olds) → AreMet f l.tables (flat_map g.T.Wired.nets l.lefts);
  same : (f : ℕ → ℕ) → l.news ≡ map (g.T.Wired.renamed f) l.olds → l.rights ≡ map (g.T.Wired.renamed f) l.lefts;
}

abbrev pub decreases-loop-lefts : goal.decreases-loop-lefts
decreases-loop-lefts g l = length l.lefts
