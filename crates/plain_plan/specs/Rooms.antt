-- The room that the plans of a module ask for, in nets, and the first module that has not enough.
use Rattle.std.specs.Prelude.{ℕ, ◌+◌, cond, nat_lt, List, [], ◌∷◌, length, drop, Option, Some, None}
use Rattle.lib_core.specs.declared.library.Library.{Library}
use Rattle.lib_core.specs.declared.library.Variant.{Variant}
use Rattle.net_core.specs.declared.mems.Mem.{Mem}
use Rattle.net_core.specs.declared.modules.Module.{Module}
use Rattle.geom_core.specs.declared.candidates.Candidate.{Candidate}
use Rattle.geom_core.specs.declared.candidates.Candidate.TheVariants.{Ram, Registers}
use Rattle.geom_core.specs.declared.candidates.RamChoice.{RamChoice}
use Rattle.fit_rules.specs.declared.plans.Plan.{Plan}
use Rattle.fit_rules.specs.Fits.{spot_of, variant_at}
use Rattle.fit_rules.specs.Rules.{new_nets}
use Rattle.fit_rules.specs.Shape.{cells}

abbrev pub room_at : Mem → RamChoice → Option Variant → ℕ
room_at x c None = 0
room_at x c (Some v) = new_nets x v (spot_of c) (cells x v (spot_of c) c.writes c.reads)

-- the most new nets that a choice of RAM cells may have (a plain candidate is one)
abbrev pub room_of : Library → Mem → Candidate → ℕ
room_of lib x Registers = 0
room_of lib x (Ram c) = room_at x c (variant_at lib c.ram c.variant)

-- the sum over memories and their plans
abbrev pub rooms : Library → List Mem → List Plan → ℕ
rooms lib [] ps = 0
rooms lib (x ∷ xs) [] = 0
rooms lib (x ∷ xs) (p ∷ ps) = room_of lib x p.candidate + rooms lib xs ps

-- the nets that a module may have in the end
abbrev pub nets_in_all : Library → Module → List Plan → ℕ
nets_in_all lib m ps = m.nets + rooms lib m.mems ps

-- These for the first module that has more than a module may have. The plans are those of the memories in order.
abbrev pub first_over : Library → List Module → List Plan → Option ℕ
first_over lib [] ps = None
first_over lib (m ∷ ms) ps = cond (nat_lt 67108864 (nets_in_all lib m ps)) (Some (nets_in_all lib m ps)) (first_over lib ms (drop (length m.mems) ps))
