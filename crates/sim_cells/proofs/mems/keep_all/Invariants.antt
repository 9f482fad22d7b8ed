use Rattle.std.proofs.Common.{◌≡◌, ℕ, ◌<◌, ◌≤◌, length, Some}
use Rattle.std.specs.Prelude.{slice_get}
use Rattle.net_core.specs.declared.mems.RdPort.{RdPort}
use Rattle.ram_step.specs.Moments.{valuation}
use Rattle.sim_cells.specs.Memories.{kept_at, port_bits, next_tri}
use Rattle.sim_cells.specs.KeptBits.{bit_lists}
use Rattle.sim_cells.proofs.mems.keep_all.Given as goal

abbrev pub invariant-loop-port : goal.invariant-loop-port
invariant-loop-port l =
    (length l.kept ≡ length l.initial.kept)
    × (length l.hits ≡ length l.initial.hits)
    × ((i : ℕ) → i < l.port → (r : RdPort) → slice_get l.mem.reads i ≡ Some r → kept_at (bit_lists l.kept) i ≡ port_bits l.key i r (next_tri l.words l.mem (valuation l.values) l.event (kept_at (bit_lists l.initial.kept) i) r))
    × ((i : ℕ) → l.port ≤ i → kept_at (bit_lists l.kept) i ≡ kept_at (bit_lists l.initial.kept) i)
