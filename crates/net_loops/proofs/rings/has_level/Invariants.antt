use Rattle.std.proofs.Common.{◌≡◌, ℕ, ◌<◌, Some}
use Rattle.std.specs.Prelude.{slice_get}
use Rattle.net_loops.proofs.rings.has_level.Given as goal

abbrev pub invariant-loop-node : goal.invariant-loop-node
invariant-loop-node l = (k j : ℕ) → k < l.node-index → slice_get l.nodes k ≡ Some j → slice_get l.levels j ≡ Some l.level → ⊥
