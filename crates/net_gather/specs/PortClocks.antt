-- Write ports without a clock.
use Rattle.std.specs.Prelude.{ℕ, zero, suc, Bool, false, not, ◌&&◌, ◌||◌, List, [], ◌∷◌, Option, Some, None, codes, slice_get, if◌then◌else◌}
use Rattle.lib_core.specs.declared.library.Tri.{Tri}
use Rattle.net_core.specs.declared.mems.Attr.{Attr}
use Rattle.net_core.specs.Valid.{is_one_digit}
use Rattle.mem_rows.specs.declared.row.MemRow.{MemRow}
use Rattle.mem_rows.specs.declared.row.MemRow.TheVariants as memory
use Rattle.mem_rows.specs.Rows.{bits}
use Rattle.net_wires.specs.declared.breach.Breach.{Breach}
use Rattle.net_wires.specs.declared.breach.BuildCode.TheVariants as code
use Rattle.net_wires.specs.Finds.{breach}
use Rattle.raw_cells.specs.declared.row.CellRow.{CellRow}
use Rattle.raw_cells.specs.declared.row.CellRow.TheVariants as row

abbrev pub is_one_bit : Option Tri → Bool
is_one_bit None = false
is_one_bit (Some t) = is_one_digit t

-- some number below n has it
abbrev pub any_below : (ℕ → Bool) → ℕ → Bool
any_below has zero = false
any_below has (suc n) = has n || any_below has n

-- this port number is the first of a port, which has no clock
abbrev pub lacks_clock : List Tri → List Tri → ℕ → Bool
lacks_clock continues clocked i = not (is_one_bit (slice_get continues i)) && not (is_one_bit (slice_get clocked i))

unfoldable pub some_lacks_clock : List Attr → ℕ → Bool
some_lacks_clock params ports = any_below (lacks_clock (bits params (codes "\\WR_WIDE_CONTINUATION")) (bits params (codes "\\WR_CLK_ENABLE"))) ports

-- a write port of this memory cell has no clock
abbrev pub writes_at_once : MemRow → List Attr → Bool
writes_at_once (memory.Whole r) params = some_lacks_clock params r.writes
writes_at_once (memory.Read r) params = false
writes_at_once (memory.OldRead r) params = false
writes_at_once (memory.Write r) params = not r.clocked
writes_at_once (memory.Init r) params = false

abbrev pub clock_breaches : CellRow → List Attr → List Breach
clock_breaches (row.Comb r) params = []
clock_breaches (row.Reg r) params = []
clock_breaches (row.Memory r) params = if writes_at_once r params then breach code.AsyncWrite ∷ [] else []
clock_breaches (row.Ram u) params = []
clock_breaches row.StrangeRam params = []
clock_breaches row.Kept params = []
