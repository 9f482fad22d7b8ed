use Rattle.std.proofs.Common.{◌≡◌, ℕ, ◌<◌, ◌≤◌, ◌^◌, length, Some, None, get_or}
use Rattle.std.specs.Prelude.{slice_get}
use Rattle.net_core.specs.declared.mems.WrPort.{WrPort}
use Rattle.ram_step.specs.Moments.{valuation}
use Rattle.sim_cells.specs.Places.{write_base}
use Rattle.sim_cells.proofs.hits.find_bases.Given as goal

abbrev pub invariant-loop-own : goal.invariant-loop-own
invariant-loop-own l =
    (length l.bases ≡ length l.mem.writes)
    × ((i : ℕ) → i < l.own → (w : WrPort) → slice_get l.mem.writes i ≡ Some w → get_or l.bases i None ≡ write_base l.mem (valuation l.values) l.event w)
    × ((i : ℕ) → i < l.own → (b : ℕ) → get_or l.bases i None ≡ Some b → b ≤ 2 ^ 48)
