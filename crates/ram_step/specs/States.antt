-- The state of one RAM cell, what it starts with, and what it is after an event: the meaning of the cell (Ram of net_core),
-- with a value picked wherever any would do. Contents stay undefined and are picked when they are read.
use Rattle.std.specs.Prelude.{◌≡◌, ℕ, ◌+◌, ◌*◌, ◌<◌, Bool, true, cond, ◌&&◌, List, [], map, length, Some, slice_get, slice_index, slice_index_or}
use Rattle.std.specs.List.{range_with_len}
use Rattle.lib_core.specs.declared.library.Tri.{Tri}
use Rattle.lib_core.specs.declared.library.Tri.TheVariants.{Any}
use Rattle.lib_core.specs.declared.library.Variant.{Variant}
use Rattle.lib_core.specs.Rams.{last_width, last_words, lies, reads_now, reads_later, filled}
use Rattle.net_core.specs.declared.bits.Event.{Event}
use Rattle.net_core.specs.declared.rams.RamCell.{RamCell}
use Rattle.net_core.specs.Values.{Valuation, tri_of, bit_at}
use Rattle.net_core.specs.Ram.{Slot, slots_of, slot_width, word_of, slot_hits, slots_written, slot_next, slot_in_arst}
use Rattle.net_core.specs.Shape.{fits_variant}
use Rattle.row_store.specs.Rows.{row_of, bit_of}
use Rattle.ram_step.specs.declared.picks.PickKey.{PickKey}
use Rattle.ram_step.specs.Picks.{resolved, start_key}
use Rattle.ram_step.specs.Moments.{inputs_alone, moment_of}

-- The variant of the cell, its words of the last width, and for each slot what its read register keeps: nothing where it has
-- none.
pub record RamLook : Type 0 where
  pub variant : Variant
  pub words : List (List Tri)
  pub kept : List (List Bool)

-- the slot has a read register in use
abbrev pub keeps : Slot → Bool
keeps s = s.pins.used && reads_later s.kind.kind

abbrev pub kept_width : Variant → Slot → ℕ
kept_width x s = cond (keeps s) (slot_width x s) 0

-- what a slot keeps
abbrev pub kept_of : List (List Bool) → Slot → List Bool
kept_of kept s = slice_index_or kept s.number []

-- words of the last width, bit by bit
abbrev pub words_by : Variant → (ℕ → ℕ → Tri) → List (List Tri)
words_by x bits = map (λ word. map (bits word) (range_with_len 0 (last_width x))) (range_with_len 0 (last_words x))

-- the bits of a slot's read register
abbrev pub kept_by : Variant → Slot → (ℕ → Bool) → List Bool
kept_by x s bits = map bits (range_with_len 0 (kept_width x s))

abbrev pub start_bit : Variant → RamCell → ℕ → ℕ → Tri
start_bit x cell word k = filled x.fill cell.init (word * last_width x + k)

abbrev pub start_kept : Variant → PickKey → Slot → List Bool
start_kept x key s = kept_by x s (λ k. resolved (start_key key) s.number k (filled s.kind.start s.pins.init_value k))

-- the state at the start; the event of the key counts for nothing
abbrev pub start_of : Variant → RamCell → PickKey → RamLook
start_of x cell key = record { variant = x; words = words_by x (start_bit x cell); kept = map (start_kept x key) (slots_of x cell) }

abbrev pub written_bit : RamLook → RamCell → Valuation → Event → ℕ → ℕ → Tri
written_bit a cell v e word k =
    slots_written (slots_of a.variant cell) (slot_hits (inputs_alone e) a.variant (moment_of e) v word k (slots_of a.variant cell)) (bit_of a.words word k)

-- what is kept of a place of a slot that reads into a register
abbrev pub next_tri : RamLook → RamCell → Valuation → Event → Slot → ℕ → Tri
next_tri a cell v e s k =
    slot_next (inputs_alone e) a.variant (slots_of a.variant cell) s (moment_of e) v (bit_of a.words) (bit_at (kept_of a.kept s)) k (slice_index s.pins.out k)

abbrev pub next_kept : RamLook → RamCell → Valuation → Event → PickKey → Slot → List Bool
next_kept a cell v e key s = kept_by a.variant s (λ k. resolved key s.number k (next_tri a cell v e s k))

-- the state after an event
abbrev pub stepped : RamLook → RamCell → Valuation → Event → PickKey → RamLook
stepped a cell v e key =
    record { variant = a.variant; words = words_by a.variant (written_bit a cell v e); kept = map (next_kept a cell v e key) (slots_of a.variant cell) }

-- what a slot shows at a place of its outputs; one that is not in use, or only writes, shows any value
abbrev pub shown_tri : RamLook → Valuation → Slot → ℕ → Tri
shown_tri a v s k =
    cond (s.pins.used && reads_now s.kind.kind) (let at = lies a.variant s.pins.level (word_of v s) k in bit_of a.words at.0 at.1)
    (cond (keeps s) (cond (slot_in_arst v s) (filled s.kind.arst s.pins.arst_value k) (tri_of (bit_at (kept_of a.kept s) k))) Any)

abbrev pub shown_bit : RamLook → Valuation → PickKey → Slot → ℕ → Bool
shown_bit a v key s k = resolved key s.number k (shown_tri a v s k)

-- a state of this cell
pub record IsStateOf (a : RamLook) (cell : RamCell) : Type 0 where
  pub fits : fits_variant cell (Some a.variant) ≡ true
  pub words : length a.words ≡ last_words a.variant
  pub rows : (word : ℕ) → word < last_words a.variant → length (row_of a.words word) ≡ last_width a.variant
  pub kept : length a.kept ≡ length (slots_of a.variant cell)
  pub bits : (i : ℕ) (s : Slot) → slice_get (slots_of a.variant cell) i ≡ Some s → length (kept_of a.kept s) ≡ kept_width a.variant s

-- a place of the outputs of a slot, and what the slot shows there
abbrev pub IsPlaceOf : RamLook → RamCell → ℕ → ℕ → Type 0
IsPlaceOf a cell i k = (s : Slot) → slice_get (slots_of a.variant cell) i ≡ Some s → k < slot_width a.variant s

abbrev pub IsShown : RamLook → RamCell → Valuation → PickKey → ℕ → ℕ → Bool → Type 0
IsShown a cell v key i k shown = (s : Slot) → slice_get (slots_of a.variant cell) i ≡ Some s → shown ≡ shown_bit a v key s k
