-- What is counted of the new module.
use Rattle.std.proofs.Common.{◌≡◌, ℕ, zero, suc, ◌+◌, ◌≤◌, Bool, cond, List, [], ◌∷◌, ◌++◌, map, length, sym, ap, ◌∙◌, subst, arith, nat_eq, append_assoc}
use Rattle.std.specs.Prelude.{count_by}
use Rattle.std.specs.List.{flat_map, remove}
use Rattle.std.proofs.lemmas.List.Sums.{sum_by-append}
use Rattle.std.proofs.lemmas.List.{map-append}
use Rattle.net_core.specs.declared.cells.Comb.{Comb}
use Rattle.net_core.specs.declared.cells.Reg.{Reg}
use Rattle.net_core.specs.declared.cells.Carried.{Carried}
use Rattle.net_core.specs.declared.modules.Module.{Module}
use Rattle.net_core.specs.declared.modules.MemPart.{MemPart}
use Rattle.net_core.specs.declared.rams.RamCell.{RamCell}
use Rattle.net_core.specs.Nodes.{Node, comb_node, reg_node, mem_nodes}
use Rattle.net_core.specs.Valid.{AreApart, cell_names, silent_nodes}
use Rattle.ram_emit.specs.Placing.{placed_in}
use Rattle.ram_emit.proofs.Placed.{Has}
use Rattle.ram_emit.proofs.Apart.{insert_apart}

count_join : {X : Type 0} (p : X → Bool) (xs ys : List X) → count_by p (xs ++ ys) ≡ count_by p xs + count_by p ys
count_join p xs ys = sum_by-append (λ x. cond (p x) 1 0) xs ys

count_fewer : {A B : Type 0} (p : B → Bool) (f : A → List B) (xs : List A) (i : ℕ) → count_by p (flat_map f (remove xs i)) ≤ count_by p (flat_map f xs)
count_fewer p f [] zero = omega arith
count_fewer p f [] (suc i) = omega arith
count_fewer p f (x ∷ xs) zero = omega (arith, count_join p (f x) (flat_map f xs))
count_fewer p f (x ∷ xs) (suc i) = omega (arith, count_join p (f x) (flat_map f xs), count_join p (f x) (flat_map f (remove xs i)), count_fewer p f xs i)

pub silent_few : (m : Module) (i : ℕ) (cell : RamCell) (nets : ℕ) → silent_nodes (placed_in m i cell nets) ≤ silent_nodes m + length cell.slots
silent_few m i cell nets =
    let silent : Node → Bool = λ p. nat_eq (length p.drives) 0 in
    let front = map comb_node m.combs in
    let regs = map reg_node m.regs in
    let old = flat_map mem_nodes m.mems in
    let now = flat_map mem_nodes (remove m.mems i) in
    let slots = sum_by-append (λ (c : RamCell). length c.slots) m.rams (cell ∷ []) in
    let a = count_join silent front (regs ++ now) in
    let b = count_join silent regs now in
    let d = count_join silent front (regs ++ old) in
    let e = count_join silent regs old in
    let fewer = count_fewer silent mem_nodes m.mems i in
    omega (arith, slots, a, b, d, e, fewer)

-- the names of the cells
pub names_apart : (m : Module) (i : ℕ) (cell : RamCell) (nets : ℕ) → AreApart (cell_names m) → (Has (cell_names m) cell.name → ⊥) → AreApart (cell_names (placed_in m i cell nets))
names_apart m i cell nets apart fresh =
    let combs = map (λ (c : Comb). c.name) m.combs in
    let regs = map (λ (r : Reg). r.name) m.regs in
    let rams = map (λ (c : RamCell). c.name) m.rams in
    let rest = map (λ (c : Carried). c.name) m.carried ++ map (λ (p : MemPart). p.name) m.parts in
    let before : cell_names m ≡ (combs ++ (regs ++ rams)) ++ rest = ap (λ ns. combs ++ ns) (sym (append_assoc regs rams rest)) ∙ sym (append_assoc combs (regs ++ rams) rest) in
    let added : map (λ (c : RamCell). c.name) (m.rams ++ cell ∷ []) ≡ rams ++ cell.name ∷ [] = map-append (λ (c : RamCell). c.name) m.rams (cell ∷ []) in
    let after : cell_names (placed_in m i cell nets) ≡ (combs ++ (regs ++ rams)) ++ (cell.name ∷ rest) =
    ap (λ ns. combs ++ (regs ++ (ns ++ rest))) added
    ∙ ap (λ ns. combs ++ (regs ++ ns)) (append_assoc rams (cell.name ∷ []) rest)
    ∙ ap (λ ns. combs ++ ns) (sym (append_assoc regs rams (cell.name ∷ rest)))
    ∙ sym (append_assoc combs (regs ++ rams) (cell.name ∷ rest)) in
    subst AreApart (sym after) (insert_apart (combs ++ (regs ++ rams)) rest cell.name (subst AreApart before apart) (λ h. fresh (subst (λ ns. Has ns cell.name) (sym before) h)))
