-- The names of the cells that stand in the places of a module's memories: `$ram`, so many underscores that no name of the
-- module begins so, the place of the cell, the name of the memory. (The form of these names is this project's own.)
use Rattle.std.specs.Prelude.{◌≡◌, ℕ, ◌+◌, ◌<◌, max, true, false, cond, nat_eq, List, [], ◌∷◌, ◌++◌, map, drop, replicate, codes, fold, Some, slice_get}
use Rattle.std.specs.List.{starts_with}
use Rattle.net_core.specs.declared.cells.Comb.{Comb}
use Rattle.net_core.specs.declared.cells.Reg.{Reg}
use Rattle.net_core.specs.declared.cells.Carried.{Carried}
use Rattle.net_core.specs.declared.mems.Mem.{Mem}
use Rattle.net_core.specs.declared.rams.RamCell.{RamCell}
use Rattle.net_core.specs.declared.modules.Wire.{Wire}
use Rattle.net_core.specs.declared.modules.Module.{Module}
use Rattle.net_core.specs.Valid.{Each}

-- how many underscores a text begins with
abbrev pub underscores : List ℕ → ℕ
underscores [] = 0
underscores (b ∷ bs) = cond (nat_eq b 95) (1 + underscores bs) 0

-- how many underscores behind `$ram` a name asks for, which may not begin so
unfoldable pub marks_of : List ℕ → ℕ
marks_of name = cond (starts_with nat_eq name (codes "$ram")) (1 + underscores (drop 4 name)) 0

abbrev pub more_marks : ℕ → List ℕ → ℕ
more_marks n name = max n (marks_of name)

-- the most that one of these names asks for, and at least a number
abbrev pub most_marks : ℕ → List (List ℕ) → ℕ
most_marks n names = fold more_marks n names

-- the names of a module: of wires, memories, logic cells, registers, RAM cells and carried cells
abbrev pub all_names : Module → List (List ℕ)
all_names m =
    map (λ (w : Wire). w.name) m.wires ++ (map (λ (x : Mem). x.name) m.mems ++ (map (λ (c : Comb). c.name) m.combs ++ (map (λ (r : Reg). r.name) m.regs ++ (map (λ (c : RamCell). c.name) m.rams ++ map (λ (c : Carried). c.name) m.carried))))

abbrev pub marks : Module → ℕ
marks m = most_marks 0 (all_names m)

-- `$ram` with so many underscores
abbrev pub marked : ℕ → List ℕ
marked n = codes "$ram" ++ replicate n 95

-- what each new cell's name begins with (each memory becomes one cell, the first)
abbrev pub front_of : Module → List ℕ
front_of m = marked (marks m) ++ codes ".0.0.0"

-- The law: no name of the module begins with the mark, and with fewer underscores one does.
pub record IsFewest (names : List (List ℕ)) (n : ℕ) : Type 0 where
  pub fresh : Each names (λ x. starts_with nat_eq x (marked n) ≡ false)
  pub fewest : (k : ℕ) → k < n → (i : ℕ) × (x : List ℕ) × (slice_get names i ≡ Some x) × (starts_with nat_eq x (marked k) ≡ true)

abbrev pub MarksAreFewest : Type 0
MarksAreFewest = (m : Module) → IsFewest (all_names m) (marks m)
