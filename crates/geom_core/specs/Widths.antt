-- The widths of a RAM's words: each is at least twice the one before. (Widths that are not doublings, as 1 2 4 9 18, are this
-- project's own; Yosys' memory_libmap has doublings alone.)
use Rattle.std.specs.Prelude.{ℕ, ◌+◌, ◌*◌, ◌<◌, ◌≤◌, List, length}
use Rattle.lib_core.specs.Rams.{width_at}

pub record AreWidths (widths : List ℕ) : Type 0 where
  pub some_bits : (k : ℕ) → k < length widths → 1 ≤ width_at widths k
  pub few_bits : (k : ℕ) → k < length widths → width_at widths k ≤ 1024
  pub doubled : (k : ℕ) → k + 1 < length widths → 2 * width_at widths k ≤ width_at widths (k + 1)
