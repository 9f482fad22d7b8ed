-- What a candidate costs, in points: what its cells cost, and what has to stand around them. Each part of a read's points
-- goes over the reads and their places as far as both go, so the points of a choice that is not complete are the same words.
use Rattle.std.specs.Prelude.{ℕ, ◌+◌, ◌-◌, ◌*◌, ◌^◌, Bool, cond, List, [], ◌∷◌, length, Option, Some, None, slice_get}
use Rattle.std.specs.List.{sum_by}
use Rattle.lib_core.specs.declared.library.Library.{Library}
use Rattle.lib_core.specs.declared.library.Variant.{Variant}
use Rattle.net_core.specs.declared.mems.Mem.{Mem}
use Rattle.net_core.specs.declared.mems.MemJob.{MemJob}
use Rattle.net_core.specs.declared.mems.RdPort.{RdPort}
use Rattle.net_core.specs.declared.mems.WrPort.{WrPort}
use Rattle.net_core.specs.declared.mems.Style.{Style}
use Rattle.net_core.specs.Valid.{data_width}
use Rattle.geom_core.specs.declared.candidates.Candidate.{Candidate}
use Rattle.geom_core.specs.declared.candidates.Candidate.TheVariants.{Ram, Registers}
use Rattle.geom_core.specs.declared.candidates.RamChoice.{RamChoice}
use Rattle.geom_core.specs.declared.candidates.ReadPlace.{ReadPlace}
use Rattle.geom_core.specs.Runs.{runs_of}
use Rattle.fit_pairs.specs.Items.{outside_parts}
use Rattle.fit_pairs.specs.Pairs.{bypasses}
use Rattle.fit_pairs.specs.Placed.{Reader, Writer}
use Rattle.fit_pairs.specs.Priorities.{emulated_count}
use Rattle.fit_rules.specs.declared.spots.Spot.{Spot}
use Rattle.fit_rules.specs.Bits.{bits_to, address_bits}
use Rattle.fit_rules.specs.Shape.{rows, cells}
use Rattle.fit_rules.specs.Standing.{placed_read}
use Rattle.fit_rules.specs.Rules.{read_first}
use Rattle.fit_rules.specs.Fits.{spot_of, variant_at, candidate_fits}

-- the sum over two lists, as far as both go; what is summed is told the number of the place
abbrev pub zip_sum : {A B : Type 0} → (ℕ → A → B → ℕ) → ℕ → List A → List B → ℕ
zip_sum f n [] ys = 0
zip_sum f n (x ∷ xs) [] = 0
zip_sum f n (x ∷ xs) (y ∷ ys) = f n x y + zip_sum f (n + 1) xs ys

-- 16 points for each unit of a cell's cost
abbrev pub cell_points : Mem → Variant → Spot → List ℕ → List ReadPlace → ℕ
cell_points m v s groups places = 16 * v.cost * cells m v s groups places

-- what chooses among the rows, and among the words that a row has at one address, for each bit that a read gives
abbrev pub row_points : Mem → Variant → Spot → RdPort → ℕ
row_points m v s r = (rows m v s - 1) * data_width m r.wide + (2 ^ (s.fold - r.wide) - 1) * data_width m r.wide

-- a register outside, or an emulated item; a bypass
abbrev pub part_points : Mem → ℕ → ℕ
part_points m wide = 2 * data_width m wide + 1

abbrev pub bypass_points : Mem → ℕ → ℕ
bypass_points m wide = address_bits m wide + 3 * data_width m wide

abbrev pub reader_points : MemJob → Variant → List ℕ → Bool → Reader → ℕ
reader_points job v groups first r =
    outside_parts r * part_points job.mem r.port.wide + bypasses first job.quiet v job.mem.writes groups r * bypass_points job.mem r.port.wide

abbrev pub points_of_reader : MemJob → Variant → List ℕ → Bool → Option Reader → ℕ
points_of_reader job v groups first None = 0
points_of_reader job v groups first (Some r) = reader_points job v groups first r

abbrev pub place_points : MemJob → Variant → List ℕ → Bool → ℕ → RdPort → ReadPlace → ℕ
place_points job v groups first n r p = points_of_reader job v groups first (placed_read v groups n r p)

abbrev pub places_points : MemJob → Variant → List ℕ → Bool → List ReadPlace → ℕ
places_points job v groups first places = zip_sum (place_points job v groups first) 0 job.mem.reads places

-- where all reads come before the writes: each write waits in a register, and each read looks for it there
abbrev pub waiting_points : Mem → WrPort → ℕ
waiting_points m w = address_bits m w.wide + 2 * data_width m w.wide

abbrev pub looking_points : Mem → RdPort → ℕ
looking_points m r = length m.writes * bypass_points m r.wide

abbrev pub order_points : Mem → Bool → ℕ
order_points m first = cond first (sum_by (waiting_points m) m.writes + sum_by (looking_points m) m.reads) 0

-- for each write and each write whose priority over it is emulated: the addresses, and each lane of the lower write
abbrev pub lower_points : Mem → WrPort → ℕ
lower_points m w = address_bits m w.wide + 2 * runs_of w.en

abbrev pub points_of_lower : Mem → Variant → List ℕ → Writer → ℕ
points_of_lower m v groups w = emulated_count v m.writes groups w * lower_points m w.port

abbrev pub priority_points : Mem → Variant → List ℕ → ℕ → WrPort → ℕ → ℕ
priority_points m v groups n w g = elim (slice_get v.groups g) as (λ _. ℕ) [ None ↦ 0 | Some k ↦ points_of_lower m v groups (record { number = n; port = w; group = g; kind = k }) ]

abbrev pub priorities_points : Mem → Variant → List ℕ → ℕ
priorities_points m v groups = zip_sum (priority_points m v groups) 0 m.writes groups

-- what tells a write's row, and its word in a row
abbrev pub write_points : Mem → Variant → Spot → WrPort → ℕ
write_points m v s w = rows m v s * bits_to (rows m v s) + 2 ^ (s.fold - w.wide) * (s.fold - w.wide)

abbrev pub ports_points : Mem → Variant → Spot → ℕ
ports_points m v s = sum_by (row_points m v s) m.reads + sum_by (write_points m v s) m.writes

-- what depends on the places of the reads
abbrev pub around_points : MemJob → Variant → List ℕ → List ReadPlace → Bool → ℕ
around_points job v groups places first = places_points job v groups first places + order_points job.mem first

-- what does not
abbrev pub fixed_points : Mem → Variant → Spot → List ℕ → ℕ
fixed_points m v s groups = priorities_points m v groups + ports_points m v s

unfoldable pub ram_points : MemJob → Variant → Spot → List ℕ → List ReadPlace → ℕ
ram_points job v s groups places =
    cell_points job.mem v s groups places + around_points job v groups places (read_first job v groups places) + fixed_points job.mem v s groups

-- 16 points for each bit in registers, 1 where nothing writes
abbrev pub bit_points : List WrPort → ℕ
bit_points [] = 1
bit_points (w ∷ ws) = 16

abbrev pub registers_points : Mem → ℕ
registers_points m = bit_points m.writes * (m.size * m.width)

abbrev pub points_in : MemJob → RamChoice → Option Variant → ℕ
points_in job c None = 0
points_in job c (Some v) = ram_points job v (spot_of c) c.writes c.reads

abbrev pub points_of : MemJob → Library → Candidate → ℕ
points_of job lib Registers = registers_points job.mem
points_of job lib (Ram c) = points_in job c (variant_at lib c.ram c.variant)

-- the points of a candidate, where it fits
abbrev pub score : MemJob → Library → Style → Candidate → Option ℕ
score job lib style c = cond (candidate_fits job lib style c) (Some (points_of job lib c)) None
