use Rattle.std.proofs.Common.{◌≡◌, ℕ, ◌<◌, length, get_or, false}
use Rattle.lib_core.specs.Rams.{filled}
use Rattle.ram_step.specs.Picks.{resolved, start_key}
use Rattle.ram_step.proofs.starts.start_bits.Given as goal

abbrev pub invariant-loop-place : goal.invariant-loop-place
invariant-loop-place g l =
    (length l.bits ≡ l.width)
    × ((k : ℕ) → k < l.place → get_or l.bits k false ≡ resolved (start_key l.key) l.port.number k (filled l.port.kind.now.start l.port.pins.now.init_value k))
