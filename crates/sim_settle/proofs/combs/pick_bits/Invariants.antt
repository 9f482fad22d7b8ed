use Rattle.std.proofs.Common.{◌≡◌, ℕ, ◌<◌}
use Rattle.lib_core.specs.Picks.{picked}
use Rattle.net_core.specs.Values.{bit_at}
use Rattle.sim_settle.proofs.combs.pick_bits.Given as goal

abbrev pub invariant-loop-place : goal.invariant-loop-place
invariant-loop-place l = (k : ℕ) → k < l.place → bit_at l.picks k ≡ picked l.key.seed l.key.event l.key.cell k
