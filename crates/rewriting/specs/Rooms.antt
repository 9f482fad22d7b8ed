-- The new nets of all steps that lead from a memory to its RAM cells, against the room that its plan leaves: for each port, 64 times
-- its bits, once for each word of a row and each row. The bits of a port are those of its address and of its data. A memory has
-- at most 4 writes and 8 reads here, so at most 8 copies.
use Rattle.std.specs.Prelude.{ℕ, zero, suc, ◌+◌, ◌-◌, ◌*◌, ◌^◌, ◌≤◌, cond, nat_le}

-- a fold: four times the bits of a port, and four times its data for each word of a row
abbrev pub fold_nets : ℕ → ℕ → ℕ → ℕ
fold_nets zero bits data_bits = 0
fold_nets (suc fold) bits data_bits = 4 * bits + 4 * (2 ^ suc fold * data_bits)

-- rows, where there are several: four times the bits of a port for each
abbrev pub row_nets : ℕ → ℕ → ℕ
row_nets rows bits = cond (nat_le rows 1) 0 (4 * (rows * bits))

-- What the steps add for a read: the new value and the waiting of each write, its start value, two resets and its enable, the guard,
-- the fold, and the rows, when its bits are those behind the fold.
abbrev pub read_nets : ℕ → ℕ → ℕ → ℕ → ℕ → ℕ → ℕ
read_nets writes fold rows bits data_bits folded =
    5 * (bits * writes) + (5 * (bits * writes) + (16 * bits + (6 * bits + (fold_nets fold bits data_bits + row_nets rows folded))))

-- What they add for a write: its waiting, the guard, the fold, the priority of the other writes over it, and the rows of each copy.
abbrev pub write_nets : ℕ → ℕ → ℕ → ℕ → ℕ → ℕ → ℕ → ℕ
write_nets writes copies fold rows bits data_bits folded =
    4 * bits + (6 * bits + (fold_nets fold bits data_bits + (4 * (folded * (writes - 1)) + copies * row_nets rows folded)))

-- the room of a port
abbrev pub port_room : ℕ → ℕ → ℕ → ℕ
port_room fold rows bits = 64 * (rows * 2 ^ fold * bits)

-- The law: the room is enough, however the steps are chosen. The bits of a port grow in a fold at most by its words.
abbrev pub RoomIsEnough : Type 0
RoomIsEnough =
    (writes copies fold rows bits data_bits folded : ℕ) → writes ≤ 4 → copies ≤ 8 → 1 ≤ rows → data_bits ≤ bits → folded ≤ 2 ^ fold * bits → (read_nets writes fold rows bits data_bits folded ≤ port_room fold rows bits) × (write_nets writes copies fold rows bits data_bits folded ≤ port_room fold rows bits)
