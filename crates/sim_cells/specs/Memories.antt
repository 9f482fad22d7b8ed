-- What a memory keeps and shows in a simulation: its meaning (Memory of net_core), with a value picked wherever any would do.
-- Contents stay undefined and are picked when they are read.
use Rattle.std.specs.Prelude.{◌≡◌, ℕ, ◌+◌, ◌*◌, ◌/◌, ◌%◌, Bool, true, false, cond, List, [], ◌∷◌, map, length, Option, Some, None, slice_get, slice_index, slice_index_or}
use Rattle.std.specs.List.{range_with_len}
use Rattle.lib_core.specs.declared.library.Tri.{Tri}
use Rattle.lib_core.specs.Rams.{tri_at}
use Rattle.net_core.specs.declared.bits.Clock.{Clock}
use Rattle.net_core.specs.declared.bits.Clock.TheVariants.{Never}
use Rattle.net_core.specs.declared.bits.Event.{Event}
use Rattle.net_core.specs.declared.mems.Mem.{Mem}
use Rattle.net_core.specs.declared.mems.RdPort.{RdPort}
use Rattle.net_core.specs.Values.{Valuation, bit_at}
use Rattle.net_core.specs.Memory.{frame_of, base_of, hits, written, read_bit, read_shows, read_next}
use Rattle.ram_step.specs.declared.picks.PickKey.{PickKey}
use Rattle.ram_step.specs.Picks.{pick_number, start_key}
use Rattle.ram_step.specs.Moments.{inputs_alone, moment_of}
use Rattle.sim_cells.specs.Choices.{taken}

-- The bits of the words, word 0 first, low bit first; what the register of each read port keeps, nothing where it has none;
-- and the number of write ports.
pub record MemLook : Type 0 where
  pub words : List Tri
  pub kept : List (List Bool)
  pub ports : ℕ

abbrev pub is_clocked : Option Clock → Bool
is_clocked None = false
is_clocked (Some c) = true

abbrev pub clock_of : Option Clock → Clock
clock_of None = Never
clock_of (Some c) = c

-- a bit of a word
abbrev pub contents : Mem → List Tri → ℕ → ℕ → Tri
contents x words word k = tri_at words (word * x.width + k)

abbrev pub kept_width : RdPort → ℕ
kept_width r = cond (is_clocked r.clock) (length r.out) 0

-- what a port keeps
abbrev pub kept_at : List (List Bool) → ℕ → List Bool
kept_at kept port = slice_index_or kept port []

-- a bit of a port, picked where it may be any
abbrev pub picked_bit : PickKey → ℕ → (ℕ → Tri) → ℕ → Bool
picked_bit key port bits k = taken key (pick_number port k) (bits k)

-- the bits of a port's register
abbrev pub port_bits : PickKey → ℕ → RdPort → (ℕ → Tri) → List Bool
port_bits key port r bits = map (picked_bit key port bits) (range_with_len 0 (kept_width r))

-- one list for each read port, the ports counted from a number
abbrev pub each_read : (ℕ → RdPort → List Bool) → ℕ → List RdPort → List (List Bool)
each_read f port [] = []
each_read f port (r ∷ rs) = f port r ∷ each_read f (port + 1) rs

abbrev pub read_start : PickKey → ℕ → RdPort → List Bool
read_start key port r = port_bits (start_key key) port r (tri_at r.init_value)

-- the state at the start; the event of the key counts for nothing
abbrev pub mem_start : Mem → PickKey → MemLook
mem_start x key = record { words = x.init; kept = each_read (read_start key) 0 x.reads; ports = length x.writes }

-- what hits a bit, by its place among the bits of all words
abbrev pub place_hits : Mem → Valuation → Event → ℕ → List (Option Bool)
place_hits x v e place = hits (inputs_alone e) (frame_of x) (moment_of e) v (place / x.width) (place % x.width) x.writes

abbrev pub written_place : MemLook → Mem → Valuation → Event → ℕ → Tri
written_place a x v e place = written x.writes (place_hits x v e place) (tri_at a.words place)

-- what a port that keeps these bits keeps next at a place
abbrev pub next_tri : List Tri → Mem → Valuation → Event → List Bool → RdPort → ℕ → Tri
next_tri words x v e kept r k =
    read_next (inputs_alone e) (frame_of x) x.writes (clock_of r.clock) r (moment_of e) v (contents x words) (bit_at kept) k (slice_index r.out k)

abbrev pub next_kept : MemLook → Mem → Valuation → Event → PickKey → ℕ → RdPort → List Bool
next_kept a x v e key port r = port_bits key port r (next_tri a.words x v e (kept_at a.kept port) r)

-- the state after an event
abbrev pub mem_stepped : MemLook → Mem → Valuation → Event → PickKey → MemLook
mem_stepped a x v e key =
    record { words = map (written_place a x v e) (range_with_len 0 (x.size * x.width)); kept = each_read (next_kept a x v e key) 0 x.reads; ports = a.ports }

-- what a read port that keeps these bits shows at a place
abbrev pub shown_tri : List Tri → Mem → Valuation → List Bool → RdPort → ℕ → Tri
shown_tri words x v kept r k =
    cond (is_clocked r.clock) (read_shows r v (bit_at kept) k) (read_bit (frame_of x) (base_of v r.addr) k (contents x words))

abbrev pub read_shown : MemLook → Mem → Valuation → PickKey → ℕ → RdPort → ℕ → Bool
read_shown a x v key port r k = picked_bit key port (shown_tri a.words x v (kept_at a.kept port) r) k

-- a state of this memory
pub record IsMemState (a : MemLook) (x : Mem) : Type 0 where
  pub words : length a.words ≡ x.size * x.width
  pub kept : length a.kept ≡ length x.reads
  pub bits : (port : ℕ) (r : RdPort) → slice_get x.reads port ≡ Some r → length (kept_at a.kept port) ≡ kept_width r
  pub ports : a.ports ≡ length x.writes
