-- Digits, bit by bit, and the rows of cells, cell by cell.
use Rattle.std.proofs.Common.{◌≡◌, ℕ, ◌+◌, ◌-◌, ◌<◌, ◌≤◌, Bool, List, [], ◌∷◌, ◌++◌, length, map, take, drop, get_or, sym, ap, ◌∙◌, arith, append_assoc}
use Rattle.std.specs.List.{flat_map}
use Rattle.std.proofs.Math.Seq.{take-length}
use Rattle.std.proofs.lemmas.List.{take_more, reverse-append}
use Rattle.net_core.specs.declared.cells.Carried.{Carried}
use Rattle.trace_text.specs.declared.rows.Row.{Row}
use Rattle.trace_text.specs.Trace.{digit, digits, cell_rows}

pub digits_more : (bits : List Bool) (i : ℕ) (d : Bool) → i < length bits → digits (take (i + 1) bits) ≡ digit (get_or bits i d) ∷ digits (take i bits)
digits_more bits i d h =
    ap digits (take_more bits i d h) ∙ ap (map digit) (reverse-append (take i bits) (get_or bits i d ∷ []))

-- a list with an item is its first one and the others
pub front : {X : Type 0} (xs : List X) (x : X) → 1 ≤ length xs → x ≡ get_or xs 0 x → xs ≡ x ∷ take (length xs - 1) (drop 1 xs)
front [] x h e = absurd (omega (arith, h))
front (y ∷ ys) x h e =
    let k : length (y ∷ ys) - 1 ≡ length ys = omega arith in
    ap (λ (z : _). z ∷ ys) (sym e) ∙ ap (λ (zs : List _). x ∷ zs) (sym (ap (λ n. take n ys) k ∙ take-length ys))

pub cells_on : (old new all : List Row) (rest : List Carried) (c : Carried) → 1 ≤ length rest → c ≡ get_or rest 0 c → new ≡ old ++ cell_rows c → old ++ flat_map cell_rows rest ≡ all
    → new ++ flat_map cell_rows (take (length rest - 1) (drop 1 rest)) ≡ all
cells_on old new all rest c long first is so_far =
    ap (λ (rs : List Row). rs ++ flat_map cell_rows (take (length rest - 1) (drop 1 rest))) is
    ∙ append_assoc old (cell_rows c) (flat_map cell_rows (take (length rest - 1) (drop 1 rest)))
    ∙ ap (λ (cs : List Carried). old ++ flat_map cell_rows cs) (sym (front rest c long first))
    ∙ so_far
