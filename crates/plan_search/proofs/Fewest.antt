-- The bits of a row need so many columns at least.
use Rattle.std.proofs.Common.{◌≡◌, ℕ, zero, suc, ◌+◌, ◌-◌, ◌*◌, ◌/◌, ◌%◌, ◌≤◌, ◌<◌, min, Bool, true, false, not, ◌||◌, cond, nat_le, nat_lt, List, [], refl, sym, subst, arith, add-one, ◌⊎◌, inl, inr}
use Rattle.std.specs.Prelude.{Option, Some, None, fold}
use Rattle.std.specs.Int.{div_ceil}
use Rattle.std.proofs.Math.Nat.{mul_assoc, suc-mul, div-mul-le_self, mul-le-mul_right, mul-le-mul_left}
use Rattle.std.proofs.lemmas.Grind.{div_ceil_times}
use Rattle.std.proofs.lemmas.Nat.{div-add-mod', mod_below, mul-le}
use Rattle.std.proofs.lemmas.Bool.{true≢false}
use Rattle.lib_core.specs.declared.library.Variant.{Variant}
use Rattle.lib_core.specs.Rams.{width_at, lane_width}
use Rattle.net_core.specs.declared.mems.Mem.{Mem}
use Rattle.net_core.specs.declared.mems.MemJob.{MemJob}
use Rattle.geom_core.specs.declared.candidates.ReadPlace.{ReadPlace}
use Rattle.geom_core.specs.declared.spreads.UnitPlace.{UnitPlace}
use Rattle.geom_core.specs.Layout.{HasUnits, row_bits, unit_bits, column_units, placed, changes_after, unit_place, units_of}
use Rattle.geom_core.proofs.Units.{at_within, columns_few}
use Rattle.fit_rules.specs.declared.plans.Plan.{Plan}
use Rattle.fit_rules.specs.declared.spots.Spot.{Spot}
use Rattle.fit_rules.specs.Limits.{VariantLimits, IsSpot}
use Rattle.fit_rules.specs.Shape.{copies, rows, columns, cells}
use Rattle.fit_rules.specs.Rules.{read_first, ram_fits, new_nets}
use Rattle.fit_rules.proofs.Copies.{copies_some}
use Rattle.fit_rules.proofs.Lengths.{and_left}
use Rattle.fit_rules.proofs.Within.{has_units}
use Rattle.fit_cost.specs.Points.{ram_points, cell_points, around_points, priorities_points, ports_points}
use Rattle.plan_search.specs.Fewest.{fewest_columns, fewest_cells, fewest_points, may_win}
use Rattle.plan_search.specs.Rams.{at_spot}
use Rattle.plan_search.proofs.Cuts.{unmoved_spot, fits_small}

-- places before the unit's last one are in the units so far
abbrev bits_before : ℕ → UnitPlace → ℕ
bits_before unit p = p.unit * unit + p.at

next_covers : (unit n : ℕ) (p : UnitPlace) (new : Bool) → p.at < unit → n ≤ bits_before unit p → suc n ≤ bits_before unit (cond new (record { unit = p.unit + 1; at = 0 }) (record { unit = p.unit; at = p.at + 1 }))
next_covers unit n p true h k = rw add-one (omega (arith, suc-mul p.unit unit, h, k))
next_covers unit n p false h k = omega (arith, k)

covers : (changes : ℕ → Bool) (unit n : ℕ) → 1 ≤ unit → n ≤ (placed changes unit n).unit * unit + (placed changes unit n).at
covers changes unit zero h = omega arith
covers changes unit (suc n) h = next_covers unit n (placed changes unit n) (changes n || not (nat_lt ((placed changes unit n).at + 1) unit)) (at_within changes unit n h) (covers changes unit n h)

all_covered : (bits unit number at : ℕ) → at < unit → bits - 1 ≤ number * unit + at → bits ≤ (number + 1) * unit
all_covered bits unit number at h k = rw add-one (omega (arith, suc-mul number unit, h, k))

units_cover : (m : Mem) (fold unit : ℕ) → 1 ≤ unit → row_bits m fold ≤ units_of m fold unit * unit
units_cover m fold unit h =
    all_covered (row_bits m fold) unit (unit_place m fold unit (row_bits m fold - 1)).unit (unit_place m fold unit (row_bits m fold - 1)).at
    (at_within (changes_after m fold) unit (row_bits m fold - 1) h) (covers (changes_after m fold) unit (row_bits m fold - 1) h)

-- a column holds a unit at least
lane_few : (byte : Option ℕ) (width : ℕ) → lane_width byte width ≤ width
lane_few None width = omega arith
lane_few (Some b) width = lane_by b width (nat_le width b) refl
  where
    lane_by : (b width : ℕ) (c : Bool) → nat_le width b ≡ c → cond c width b ≤ width
    lane_by b width true e = omega arith
    lane_by b width false e = grind (arith, e)

some_quotient : (w u q r : ℕ) → w ≡ q * u + r → r < u → u ≤ w → 1 ≤ q
some_quotient w u zero r e h k = absurd (omega (arith, e, h, k))
some_quotient w u (suc q) r e h k = omega arith

through : (a b c : ℕ) → a ≤ b → b ≤ c → a ≤ c
through a b c h k = omega (arith, h, k)

columns_hold : (bits units unit per width : ℕ) → 1 ≤ per → per * unit ≤ width → bits ≤ units * unit → bits ≤ div_ceil units per * width
columns_hold bits units unit per width some within all =
    through bits (units * unit) (div_ceil units per * width) all
    (through (units * unit) (div_ceil units per * per * unit) (div_ceil units per * width) (mul-le-mul_right unit (div_ceil_times units per some).0)
    (rw mul_assoc (mul-le-mul_left (div_ceil units per) within)))

-- so many columns are needed
needed_by : (bits width columns need : ℕ) → bits ≤ columns * width → need * width < bits + width → columns < need → suc columns * width ≤ need * width → need ≤ columns
needed_by bits width columns need h k l p = absurd (omega (arith, h, k, p, suc-mul columns width))

less_or : (a b : ℕ) → (a ≤ b) ⊎ (b < a)
less_or a b = by_test a b (nat_le a b) refl
  where
    by_test : (a b : ℕ) (c : Bool) → nat_le a b ≡ c → (a ≤ b) ⊎ (b < a)
    by_test a b true e = inl (grind (arith, e))
    by_test a b false e = inr (grind (arith, e))

needed : (bits width columns : ℕ) → 1 ≤ width → bits ≤ columns * width → div_ceil bits width ≤ columns
needed bits width columns some h =
    elim (less_or (div_ceil bits width) columns) as (λ _. div_ceil bits width ≤ columns) [
      | inl l ↦ l
      | inr l ↦ needed_by bits width columns (div_ceil bits width) h (div_ceil_times bits width some).1 l (mul-le-mul_right width (omega (arith, l)))
    ]

fewest_hold : (m : Mem) (v : Variant) (s : Spot) → HasUnits v s.level → fewest_columns m v s ≤ columns m v s
fewest_hold m v s h =
    let width = width_at v.widths s.level in
    let unit = unit_bits v s.level in
    let per : 1 ≤ column_units v s.level = some_quotient width unit (width / unit) (width % unit) (sym (div-add-mod' width unit)) (mod_below width unit h.some_units) (lane_few v.byte width) in
    needed (row_bits m s.fold) width (columns m v s) h.some_bits
    (columns_hold (row_bits m s.fold) (units_of m s.fold unit) unit (column_units v s.level) width per (div-mul-le_self width unit) (units_cover m s.fold unit h.some_units))

one_copy : (copies rows need columns : ℕ) → 1 ≤ copies → need ≤ columns → rows * need ≤ copies * rows * columns
one_copy copies rows need columns h k = mul-le rows need (copies * rows) columns (subst (λ n. n ≤ copies * rows) (let e : 1 * rows ≡ rows = omega arith in e) (mul-le-mul_right rows h)) k

cells_hold : (m : Mem) (v : Variant) (s : Spot) (groups : List ℕ) (places : List ReadPlace) → HasUnits v s.level → fewest_cells m v s ≤ cells m v s groups places
cells_hold m v s groups places h = one_copy (copies v groups places) (rows m v s) (fewest_columns m v s) (columns m v s) (copies_some v groups [] places) (fewest_hold m v s h)

joined : (least cells around priorities ports : ℕ) → least ≤ cells → least + ports ≤ cells + around + (priorities + ports)
joined least cells around priorities ports h = omega (arith, h)

points_hold : (job : MemJob) (v : Variant) (s : Spot) (groups : List ℕ) (places : List ReadPlace) → HasUnits v s.level → fewest_points job.mem v s ≤ ram_points job v s groups places
unfolding ram_points
points_hold job v s groups places h =
    joined (16 * v.cost * fewest_cells job.mem v s) (cell_points job.mem v s groups places) (around_points job v groups places (read_first job v groups places)) (priorities_points job.mem v groups) (ports_points job.mem v s)
    (mul-le-mul_left (16 * v.cost) (cells_hold job.mem v s groups places h))

few_enough : (a b most : ℕ) → a ≤ b → nat_le b most ≡ true → nat_le a most ≡ true
few_enough a b most h e = grind (arith, h, e)

few_cells : (job : MemJob) (v : Variant) (s : Spot) (groups : List ℕ) (places : List ReadPlace) → HasUnits v s.level → ram_fits job v s groups places ≡ true → nat_le (fewest_cells job.mem v s) 4096 ≡ true
few_cells job v s groups places h e =
    few_enough (fewest_cells job.mem v s) (cells job.mem v s groups places) 4096 (cells_hold job.mem v s groups places h)
    (and_left (nat_le (cells job.mem v s groups places) 4096) (nat_le (new_nets job.mem v s (cells job.mem v s groups places)) 16777216) (fits_small job v s groups places e))

not_of_false : (b : Bool) → b ≡ false → not b ≡ true
not_of_false true e = absurd (true≢false e)
not_of_false false e = refl

pub cannot_win : (job : MemJob) (v : Variant) (s : Spot) (best : Option Plan) → VariantLimits v → IsSpot v s → may_win job.mem v s best ≡ false → best ≡ at_spot job v s best
cannot_win job v s best limits spot e =
    let units = has_units v s limits spot in
    unmoved_spot job v s best (fewest_points job.mem v s) (nat_le (fewest_cells job.mem v s) 4096)
    (λ groups reads f. few_cells job v s groups reads units f) (λ groups reads. points_hold job v s groups reads units) (not_of_false (may_win job.mem v s best) e)

-- bounds of the code's numbers
pub need_few : (bits width : ℕ) → 1 ≤ width → bits ≤ 4194304 → bits / width + min 1 (bits % width) ≤ 4194304
need_few bits width some few = omega (arith, columns_few bits width some, few)

pub rows_need_few : (rows need : ℕ) → rows ≤ 1048576 → need ≤ 4194304 → rows * need ≤ 4398046511104
rows_need_few rows need h k = mul-le rows need 1048576 4194304 h k

pub least_few : (cost cells : ℕ) → cost ≤ 1048576 → cells ≤ 4096 → 16 * cost * cells ≤ 68719476736
least_few cost cells h k = mul-le (16 * cost) cells 16777216 4096 (omega (arith, h)) k
