use Rattle.std.proofs.Common.{◌≡◌, ℕ, ◌<◌, length, Some, None, get_or}
use Rattle.std.specs.Prelude.{slice_get}
use Rattle.net_core.specs.declared.mems.WrPort.{WrPort}
use Rattle.ram_step.specs.Moments.{valuation}
use Rattle.sim_cells.specs.Places.{base_hit}
use Rattle.sim_cells.proofs.hits.find_hits.Given as goal

abbrev pub invariant-loop-own : goal.invariant-loop-own
invariant-loop-own l =
    (length l.hits ≡ length l.mem.writes)
    × ((i : ℕ) → i < l.own → (w : WrPort) → slice_get l.mem.writes i ≡ Some w → get_or l.hits i None ≡ base_hit l.mem (valuation l.values) l.place w (get_or l.bases i None))
