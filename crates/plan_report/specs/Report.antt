-- The report on plans: for each memory what it became, at which ports its writes and reads stand, and its points; last the sum
-- of all points. Memories and plans are paired in order, modules in file order, as far as there are both.
use Rattle.std.specs.Prelude.{◌≡◌, ℕ, ◌+◌, ◌%◌, ◌≤◌, true, nat_eq, List, [], ◌∷◌, ◌++◌, codes, length, take, drop, count_by, Option, Some, None, slice_get}
use Rattle.std.specs.List.{sum_by, flat_map}
use Rattle.lib_core.specs.declared.library.Library.{Library}
use Rattle.lib_core.specs.declared.library.RamKind.{RamKind}
use Rattle.lib_core.specs.declared.library.Variant.{Variant}
use Rattle.net_core.specs.declared.mems.Mem.{Mem}
use Rattle.net_core.specs.declared.mems.Pair.{Pair}
use Rattle.net_core.specs.declared.mems.Style.TheVariants.{Auto}
use Rattle.net_core.specs.declared.modules.Module.{Module}
use Rattle.net_core.specs.declared.modules.Design.{Design}
use Rattle.geom_core.specs.declared.candidates.Candidate.{Candidate}
use Rattle.geom_core.specs.declared.candidates.Candidate.TheVariants.{Ram, Registers}
use Rattle.geom_core.specs.declared.candidates.RamChoice.{RamChoice}
use Rattle.geom_core.specs.declared.candidates.ReadPlace.{ReadPlace}
use Rattle.geom_core.specs.declared.candidates.ReadPlace.TheVariants as place
use Rattle.fit_rules.specs.declared.plans.Plan.{Plan}
use Rattle.fit_rules.specs.Limits.{LibraryLimits, MemLimits}
use Rattle.fit_rules.specs.Standing.{left}
use Rattle.fit_rules.specs.Shape.{in_group, copy_of, shape_at}
use Rattle.fit_rules.specs.Fits.{spot_of, variant_at, candidate_fits}
use Rattle.plan_report.specs.Lines.{memory_line, registers_line, ram_line, write_line, read_line, ride_line, points_line, total_line}

-- the names of a group's ports, and one of them; nothing where there is none
abbrev pub names_in : Variant → ℕ → List (List ℕ)
names_in v group = elim (slice_get v.groups group) as (λ _. List (List ℕ)) [ None ↦ [] | Some g ↦ g.names ]

abbrev pub name_at : List (List ℕ) → ℕ → List ℕ
name_at names k = elim (slice_get names k) as (λ _. List ℕ) [ None ↦ [] | Some name ↦ name ]

-- a write takes the next name of its group after the writes before it
abbrev pub write_slot : Variant → List ℕ → ℕ → List ℕ
write_slot v before group = name_at (names_in v group) (count_by (nat_eq group) before)

-- a line for each of the last writes of these groups, counted from a number
abbrev pub write_lines : Variant → List ℕ → ℕ → List ℕ → List ℕ
write_lines v groups at [] = []
write_lines v groups at (g ∷ gs) = write_line at (write_slot v (take at groups) g) ++ write_lines v groups (at + 1) gs

-- the names of a group that its writes leave; reads take these in order, and begin again in the next copy
abbrev pub free_names : Variant → List ℕ → ℕ → List (List ℕ)
free_names v groups group = drop (count_by (nat_eq group) groups) (names_in v group)

abbrev pub read_slot : Variant → List ℕ → List ReadPlace → ℕ → List ℕ
read_slot v groups before group = name_at (free_names v groups group) (count_by (in_group group) before % left v groups group)

-- the line of a read, after the reads before it
abbrev pub read_text : Variant → List ℕ → List ReadPlace → ℕ → ReadPlace → List ℕ
read_text v groups before at (place.Group g) = read_line at (read_slot v groups before g) (copy_of v groups before (place.Group g))
read_text v groups before at (place.Ride w) = ride_line at w (copy_of v groups before (place.Ride w))

-- a line for each of the last reads of these places, counted from a number
abbrev pub read_lines : Variant → List ℕ → List ReadPlace → ℕ → List ReadPlace → List ℕ
read_lines v groups places at [] = []
read_lines v groups places at (p ∷ ps) = read_text v groups (take at places) at p ++ read_lines v groups places (at + 1) ps

abbrev pub name_of : Library → ℕ → List ℕ
name_of lib ram = elim (slice_get lib.rams ram) as (λ _. List ℕ) [ None ↦ [] | Some k ↦ k.name ]

unfoldable pub port_lines : RamChoice → Variant → List ℕ
port_lines c v = write_lines v c.writes 0 c.writes ++ read_lines v c.writes c.reads 0 c.reads

-- what a memory became; a variant that the library lacks has no lines
abbrev pub choice_text : Library → Mem → RamChoice → Option Variant → List ℕ
choice_text lib x c None = []
choice_text lib x c (Some v) = ram_line (name_of lib c.ram) c (shape_at x v (spot_of c) c.writes c.reads) ++ port_lines c v

abbrev pub candidate_text : Library → Mem → Candidate → List ℕ
candidate_text lib x Registers = registers_line
candidate_text lib x (Ram c) = choice_text lib x c (variant_at lib c.ram c.variant)

unfoldable pub plan_text : Library → List ℕ → Mem → Plan → List ℕ
plan_text lib owner x p = memory_line owner x.name ++ (candidate_text lib x p.candidate ++ points_line p.points)

-- the memories of a module, and of all modules
abbrev pub mems_text : Library → List ℕ → List Mem → List Plan → List ℕ
mems_text lib owner [] plans = []
mems_text lib owner (x ∷ xs) [] = []
mems_text lib owner (x ∷ xs) (p ∷ ps) = plan_text lib owner x p ++ mems_text lib owner xs ps

abbrev pub modules_text : Library → List Module → List Plan → List ℕ
modules_text lib [] plans = []
modules_text lib (m ∷ ms) plans = mems_text lib m.name m.mems plans ++ modules_text lib ms (drop (length m.mems) plans)

-- the points of all memories
abbrev pub points_of : List Plan → ℕ
points_of plans = sum_by (λ (p : Plan). p.points) plans

abbrev pub total_points : List Module → List Plan → ℕ
total_points [] plans = 0
total_points (m ∷ ms) plans = points_of (take (length m.mems) plans) + total_points ms (drop (length m.mems) plans)

-- the text of the report
abbrev pub report : Library → Design → List Plan → List ℕ
report lib d plans = modules_text lib d.modules plans ++ total_line (total_points d.modules plans)

-- The memory is within limits, and the candidate is one that fits it, whatever pairs are never enabled together.
pub record IsFitting (lib : Library) (x : Mem) (c : Candidate) : Type 0 where
  pub quiet : List Pair
  pub limits : MemLimits x
  pub fits : candidate_fits (record { mem = x; quiet = quiet }) lib Auto c ≡ true

-- each memory's plan fits it, as far as there are both
abbrev pub PlansFit : Library → List Mem → List Plan → Type 0
PlansFit lib [] plans = Unit {0}
PlansFit lib (x ∷ xs) [] = Unit {0}
PlansFit lib (x ∷ xs) (p ∷ ps) = IsFitting lib x p.candidate × PlansFit lib xs ps

-- the memories of modules, in order
abbrev pub mems_of : List Module → List Mem
mems_of ms = flat_map (λ (m : Module). m.mems) ms
