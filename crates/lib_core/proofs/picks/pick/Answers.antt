use Rattle.std.proofs.Common.{ℕ, ◌*◌, ap, ◌^◌}
use Rattle.std.specs.Prelude.{◌==◌, ◌/◌}
use Rattle.lib_core.specs.Picks.{mixed, picked, place_sum}
use Rattle.lib_core.proofs.Sums.{sum_wraps}
use Rattle.lib_core.proofs.picks.pick.Goals as goal

pub returns : goal.returns
unfolding mixed picked place_sum
returns c = ap (λ (sum : ℕ). mixed sum / 2 ^ 63 == 1) (sum_wraps (2 ^ 64) (c.args.seed * 11400714819323198485) (c.args.event * 6364136223846793005) (c.args.cell * 1442695040888963407) (c.args.bit * 3935559000370003845))
