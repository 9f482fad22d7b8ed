-- A design with one RAM cell in the place of each memory.
use Rattle.std.specs.Prelude.{ℕ, ◌+◌, List, [], ◌∷◌, ◌++◌, length, drop}
use Rattle.lib_core.specs.declared.library.Library.{Library}
use Rattle.net_core.specs.declared.mems.Mem.{Mem}
use Rattle.net_core.specs.declared.rams.RamCell.{RamCell}
use Rattle.net_core.specs.declared.modules.Module.{Module}
use Rattle.net_core.specs.declared.modules.Design.{Design}
use Rattle.net_core.specs.Valid.{Each, MemFits}
use Rattle.geom_core.specs.declared.candidates.Candidate.{Candidate}
use Rattle.geom_core.specs.declared.candidates.Candidate.TheVariants.{Ram, Registers}
use Rattle.fit_rules.specs.declared.plans.Plan.{Plan}
use Rattle.fit_rules.specs.Limits.{LibraryLimits}
use Rattle.ram_emit.specs.Cell.{plain_cell, new_nets}
use Rattle.ram_emit.specs.Placing.{in_place}
use Rattle.plain_plan.specs.Planned.{mems_of, ArePlain}
use Rattle.plain_bind.specs.declared.binding.Made.{Made}
use Rattle.plain_bind.specs.Names.{front_of}

-- The cell of a candidate in the place of the first memory. (A plain candidate is one of RAM cells.)
abbrev pub bind_mem : Library → List ℕ → Module → Mem → Candidate → Module
bind_mem lib front m x Registers = m
bind_mem lib front m x (Ram c) = in_place lib m 0 x c (front ++ x.name)

-- the cells of plans in the places of the memories, one after the other
abbrev pub bound_mems : Library → List ℕ → Module → List Mem → List Plan → Module
bound_mems lib front m [] ps = m
bound_mems lib front m (x ∷ xs) [] = m
bound_mems lib front m (x ∷ xs) (p ∷ ps) = bound_mems lib front (bind_mem lib front m x p.candidate) xs ps

abbrev pub bound_module : Library → Module → List Plan → Module
bound_module lib m ps = bound_mems lib (front_of m) m m.mems ps

-- the plans are those of the memories in order
abbrev pub bound_modules : Library → List Module → List Plan → List Module
bound_modules lib [] ps = []
bound_modules lib (m ∷ ms) ps = bound_module lib m ps ∷ bound_modules lib ms (drop (length m.mems) ps)

abbrev pub bound : Library → Design → List Plan → Design
bound lib d ps = record { modules = bound_modules lib d.modules ps }

-- each memory is one that a module may have, and has a plan that is plain for it
pub record CanBind (lib : Library) (d : Design) (plans : List Plan) : Type 0 where
  pub limits : LibraryLimits lib
  pub fits : Each d.modules (λ m. Each m.mems MemFits)
  pub plain : ArePlain lib (mems_of d.modules) plans

-- The same by the cells alone: one behind the other, their new nets numbered on.
abbrev pub nets_for : Library → Mem → Candidate → ℕ
nets_for lib x Registers = 0
nets_for lib x (Ram c) = new_nets lib x c

abbrev pub cells_for : Library → List ℕ → ℕ → Mem → Candidate → List RamCell
cells_for lib front nets x Registers = []
cells_for lib front nets x (Ram c) = plain_cell lib x c (front ++ x.name) nets ∷ []

abbrev pub cells_of : Library → List ℕ → ℕ → List Mem → List Plan → List RamCell
cells_of lib front nets [] ps = []
cells_of lib front nets (x ∷ xs) [] = []
cells_of lib front nets (x ∷ xs) (p ∷ ps) = cells_for lib front nets x p.candidate ++ cells_of lib front (nets + nets_for lib x p.candidate) xs ps

abbrev pub nets_after : Library → ℕ → List Mem → List Plan → ℕ
nets_after lib nets [] ps = nets
nets_after lib nets (x ∷ xs) [] = nets
nets_after lib nets (x ∷ xs) (p ∷ ps) = nets_after lib (nets + nets_for lib x p.candidate) xs ps

-- the cells of a module and the number of its nets, after some memories
abbrev pub made_with : Library → List ℕ → Made → Mem → Candidate → Made
made_with lib front made x c = record { nets = made.nets + nets_for lib x c; rams = made.rams ++ cells_for lib front made.nets x c }

abbrev pub made_by : Library → List ℕ → Made → List Mem → List Plan → Made
made_by lib front made [] ps = made
made_by lib front made (x ∷ xs) [] = made
made_by lib front made (x ∷ xs) (p ∷ ps) = made_by lib front (made_with lib front made x p.candidate) xs ps
