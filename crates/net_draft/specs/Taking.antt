-- The names of a module's wires and cells.
use Rattle.std.specs.Prelude.{ℕ, List, [], ◌∷◌}
use Rattle.net_core.specs.declared.cells.Carried.{Carried}
use Rattle.net_core.specs.declared.cells.Comb.{Comb}
use Rattle.net_core.specs.declared.cells.Reg.{Reg}
use Rattle.net_core.specs.declared.mems.Mem.{Mem}
use Rattle.net_core.specs.declared.modules.Module.{Module}
use Rattle.net_core.specs.declared.modules.Wire.{Wire}
use Rattle.net_core.specs.declared.rams.RamCell.{RamCell}
use Rattle.net_draft.specs.Naming.{with_name}

-- the names of these are taken as well
unfoldable pub with_wires : List (List ℕ) → List Wire → List (List ℕ)
with_wires taken [] = taken
with_wires taken (w ∷ ws) = with_wires (with_name taken w.name) ws

unfoldable pub with_combs : List (List ℕ) → List Comb → List (List ℕ)
with_combs taken [] = taken
with_combs taken (c ∷ cs) = with_combs (with_name taken c.name) cs

unfoldable pub with_regs : List (List ℕ) → List Reg → List (List ℕ)
with_regs taken [] = taken
with_regs taken (r ∷ rs) = with_regs (with_name taken r.name) rs

unfoldable pub with_rams : List (List ℕ) → List RamCell → List (List ℕ)
with_rams taken [] = taken
with_rams taken (r ∷ rs) = with_rams (with_name taken r.name) rs

unfoldable pub with_carried : List (List ℕ) → List Carried → List (List ℕ)
with_carried taken [] = taken
with_carried taken (c ∷ cs) = with_carried (with_name taken c.name) cs

unfoldable pub with_mems : List (List ℕ) → List Mem → List (List ℕ)
with_mems taken [] = taken
with_mems taken (m ∷ ms) = with_mems (with_name taken m.name) ms

-- wires, and cells but for those of memories
abbrev pub with_names : List (List ℕ) → Module → List (List ℕ)
with_names taken m = with_carried (with_rams (with_regs (with_combs (with_wires taken m.wires) m.combs) m.regs) m.rams) m.carried

abbrev pub taken_names : Module → List (List ℕ)
taken_names m = with_names [] m
