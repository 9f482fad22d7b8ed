-- Cells of memories and of RAMs, put behind others one by one.
use Rattle.std.proofs.Common.{ℕ, List, [], ◌∷◌, ◌++◌, Option, refl}
use Rattle.lib_core.specs.declared.library.Library.{Library}
use Rattle.net_core.specs.declared.cells.Carried.{Carried}
use Rattle.net_core.specs.declared.mems.Mem.{Mem}
use Rattle.net_core.specs.declared.rams.RamCell.{RamCell}
use Rattle.net_draft.specs.Cells.{AddsMemCells, AddsRamCells, IsMemCell}
use Rattle.net_draft.specs.Naming.{with_name}
use Rattle.net_draft.specs.Rams.{IsRamCell}

-- ---- memories

-- with the cells of the memories that are left, these are all cells
pub MemsLeft : List (List ℕ) → List Mem → List Carried → List (List ℕ) → List Mem → List Carried → Type 0
MemsLeft first all before taken left so_far = (after : List Carried) (taken_then : List (List ℕ)) → AddsMemCells taken left so_far after taken_then → AddsMemCells first all before after taken_then

pub mems_begin : (taken : List (List ℕ)) (all : List Mem) (before : List Carried) → MemsLeft taken all before taken all before
unfolding MemsLeft
mems_begin taken all before after taken_then h = h

mem_more : (taken : List (List ℕ)) (m : Mem) (ms : List Mem) (c : Carried) (before after : List Carried) (taken_then : List (List ℕ)) → IsMemCell taken m c → AddsMemCells (with_name taken c.name) ms (before ++ c ∷ []) after taken_then → AddsMemCells taken (m ∷ ms) before after taken_then
unfolding AddsMemCells
mem_more taken m ms c before after taken_then i h = (c, (i, h))

pub mems_next : (first : List (List ℕ)) (all : List Mem) (before : List Carried) (taken : List (List ℕ)) (m : Mem) (ms : List Mem) (so_far : List Carried) (c : Carried) → MemsLeft first all before taken (m ∷ ms) so_far → IsMemCell taken m c → MemsLeft first all before (with_name taken c.name) ms (so_far ++ c ∷ [])
unfolding MemsLeft
mems_next first all before taken m ms so_far c left i after taken_then h = left after taken_then (mem_more taken m ms c so_far after taken_then i h)

no_mems : (taken : List (List ℕ)) (cells : List Carried) → AddsMemCells taken [] cells cells taken
unfolding AddsMemCells
no_mems taken cells = (refl, refl)

pub mems_end : (first : List (List ℕ)) (all : List Mem) (before : List Carried) (taken : List (List ℕ)) (so_far : List Carried) → MemsLeft first all before taken [] so_far → AddsMemCells first all before so_far taken
unfolding MemsLeft
mems_end first all before taken so_far left = left so_far taken (no_mems taken so_far)

-- ---- RAMs

pub RamsLeft : Library → List (Option ℕ) → List RamCell → List Carried → List RamCell → List Carried → Type 0
RamsLeft lib table all before left so_far = (after : List Carried) → AddsRamCells lib table left so_far after → AddsRamCells lib table all before after

pub rams_begin : (lib : Library) (table : List (Option ℕ)) (all : List RamCell) (before : List Carried) → RamsLeft lib table all before all before
unfolding RamsLeft
rams_begin lib table all before after h = h

ram_more : (lib : Library) (table : List (Option ℕ)) (r : RamCell) (rs : List RamCell) (c : Carried) (before after : List Carried) → IsRamCell lib table r c → AddsRamCells lib table rs (before ++ c ∷ []) after → AddsRamCells lib table (r ∷ rs) before after
unfolding AddsRamCells
ram_more lib table r rs c before after i h = (c, (i, h))

pub rams_next : (lib : Library) (table : List (Option ℕ)) (all : List RamCell) (before : List Carried) (r : RamCell) (rs : List RamCell) (so_far : List Carried) (c : Carried) → RamsLeft lib table all before (r ∷ rs) so_far → IsRamCell lib table r c → RamsLeft lib table all before rs (so_far ++ c ∷ [])
unfolding RamsLeft
rams_next lib table all before r rs so_far c left i after h = left after (ram_more lib table r rs c so_far after i h)

no_rams : (lib : Library) (table : List (Option ℕ)) (cells : List Carried) → AddsRamCells lib table [] cells cells
unfolding AddsRamCells
no_rams lib table cells = refl

pub rams_end : (lib : Library) (table : List (Option ℕ)) (all : List RamCell) (before so_far : List Carried) → RamsLeft lib table all before [] so_far → AddsRamCells lib table all before so_far
unfolding RamsLeft
rams_end lib table all before so_far left = left so_far (no_rams lib table so_far)
