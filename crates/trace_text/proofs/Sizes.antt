-- Numbers and bytes of lines over lists of outputs, and their widths.
use Rattle.std.proofs.Common.{◌≡◌, ℕ, ◌+◌, ◌-◌, ◌≤◌, Bool, true, false, cond, List, [], ◌∷◌, ◌++◌, length, map, leb, get_or, take, drop, arith, refl, sym, ap, ◌∙◌, length-append}
use Rattle.std.specs.List.{filter, flat_map}
use Rattle.net_core.specs.declared.cells.Carried.{Carried}
use Rattle.net_core.specs.declared.cells.Pin.{Pin}
use Rattle.net_core.specs.declared.modules.Module.{Module}
use Rattle.net_core.specs.declared.modules.Wire.{Wire}
use Rattle.net_core.specs.Ports.{by_port, insert_port, is_output_wire, outputs_of, wire_bits, bits_of_pins, reading_bits}
use Rattle.trace_text.specs.declared.rows.Row.{Row}
use Rattle.trace_text.specs.Trace.{wire_row, pin_row, reading, cell_rows, rows_of}
use Rattle.trace_text.specs.Lengths.{capped, line_bytes, all_bytes}
use Rattle.trace_text.proofs.Spelled.{front}

-- a sum over rows
abbrev pub total : (Row → ℕ) → List Row → ℕ
total f [] = 0
total f (r ∷ rs) = f r + total f rs

pub total_append : (f : Row → ℕ) (xs ys : List Row) → total f (xs ++ ys) ≡ total f xs + total f ys
total_append f [] ys = omega arith
total_append f (x ∷ xs) ys = omega (arith, total_append f xs ys)

pub all_total : (rs : List Row) → all_bytes rs ≡ total line_bytes rs
unfolding all_bytes
all_total [] = refl
all_total (r ∷ rs) = ap (λ n. line_bytes r + n) (all_total rs)

pub length_total : (rs : List Row) → length rs ≡ total (λ r. 1) rs
length_total [] = refl
length_total (r ∷ rs) = omega (arith, length_total rs)

-- the order of wires is nothing to a sum
total_chosen : (f : Row → ℕ) (w x : Wire) (xs : List Wire) (b : Bool) (later : List Wire) → total f (map wire_row later) ≡ f (wire_row w) + total f (map wire_row xs) → total f (map wire_row (cond b (w ∷ x ∷ xs) (x ∷ later))) ≡ f (wire_row w) + (f (wire_row x) + total f (map wire_row xs))
total_chosen f w x xs true later e = refl
total_chosen f w x xs false later e = omega (arith, e)

total_put : (f : Row → ℕ) (w : Wire) (ws : List Wire) → total f (map wire_row (insert_port w ws)) ≡ f (wire_row w) + total f (map wire_row ws)
total_put f w [] = refl
total_put f w (x ∷ xs) = total_chosen f w x xs (leb w.port x.port) (insert_port w xs) (total_put f w xs)

pub total_by_port : (f : Row → ℕ) (ws : List Wire) → total f (map wire_row (by_port ws)) ≡ total f (map wire_row ws)
total_by_port f [] = refl
total_by_port f (w ∷ ws) = total_put f w (by_port ws) ∙ ap (λ n. f (wire_row w) + n) (total_by_port f ws)

pub total_rows : (f : Row → ℕ) (m : Module) → total f (rows_of m) ≡ total f (map wire_row (filter is_output_wire m.wires)) + total f (flat_map cell_rows m.carried)
unfolding rows_of
total_rows f m =
    total_append f (map wire_row (by_port (filter is_output_wire m.wires))) (flat_map cell_rows m.carried)
    ∙ ap (λ n. n + total f (flat_map cell_rows m.carried)) (total_by_port f (filter is_output_wire m.wires))

pub count_rows : (m : Module) → length (rows_of m) ≡ length (map wire_row (filter is_output_wire m.wires)) + length (flat_map cell_rows m.carried)
count_rows m =
    omega (arith, length_total (rows_of m), total_rows (λ r. 1) m, length_total (map wire_row (filter is_output_wire m.wires)), length_total (flat_map cell_rows m.carried))

pub bytes_rows : (m : Module) → all_bytes (rows_of m) ≡ all_bytes (map wire_row (filter is_output_wire m.wires)) + all_bytes (flat_map cell_rows m.carried)
bytes_rows m =
    omega (arith, all_total (rows_of m), total_rows line_bytes m, all_total (map wire_row (filter is_output_wire m.wires)), all_total (flat_map cell_rows m.carried))

pub all_append : (xs ys : List Row) → all_bytes (xs ++ ys) ≡ all_bytes xs + all_bytes ys
all_append xs ys = all_total (xs ++ ys) ∙ total_append line_bytes xs ys ∙ sym (ap (λ n. n + all_bytes ys) (all_total xs) ∙ ap (λ n. total line_bytes xs + n) (all_total ys))

-- a sum over the rows of cells, as far as 64 bits count, with one cell more
pub cells_sum : (f : List Row → ℕ) (before now : ℕ) (rest : List Carried) (c : Carried) (all : ℕ) → ((xs ys : List Row) → f (xs ++ ys) ≡ f xs + f ys)
    → 1 ≤ length rest → c ≡ get_or rest 0 c → now ≡ capped (before + f (cell_rows c)) → capped (before + f (flat_map cell_rows rest)) ≡ all
    → capped (now + f (flat_map cell_rows (take (length rest - 1) (drop 1 rest)))) ≡ all
cells_sum f before now rest c all splits long first is so_far =
    let tail = take (length rest - 1) (drop 1 rest) in
    let whole : f (flat_map cell_rows rest) ≡ f (cell_rows c) + f (flat_map cell_rows tail) =
    ap (λ cs. f (flat_map cell_rows cs)) (front rest c long first) ∙ splits (cell_rows c) (flat_map cell_rows tail)
    in
    omega (arith, is, so_far, whole)

-- ---- widths

abbrev pub widths : List Row → ℕ
widths rs = total (λ r. r.width) rs

wire_widths : (ws : List Wire) → widths (map wire_row ws) ≡ length (wire_bits ws)
wire_widths [] = refl
wire_widths (w ∷ ws) = omega (arith, wire_widths ws, length-append w.bits (wire_bits ws))

pin_widths : (name : List ℕ) (ps : List Pin) → widths (map (pin_row name) ps) ≡ length (bits_of_pins ps)
pin_widths name [] = refl
pin_widths name (p ∷ ps) = omega (arith, pin_widths name ps, length-append p.bits (bits_of_pins ps))

cell_widths : (cs : List Carried) → widths (flat_map cell_rows cs) ≡ length (flat_map reading_bits cs)
cell_widths [] = refl
cell_widths (c ∷ cs) =
    omega (arith, total_append (λ r. r.width) (cell_rows c) (flat_map cell_rows cs), pin_widths c.name (reading c.pins), cell_widths cs, length-append (reading_bits c) (flat_map reading_bits cs))

pub module_widths : (m : Module) → widths (rows_of m) ≡ length (outputs_of m)
unfolding rows_of
module_widths m =
    let ws = by_port (filter is_output_wire m.wires) in
    omega (arith, total_append (λ r. r.width) (map wire_row ws) (flat_map cell_rows m.carried), wire_widths ws, cell_widths m.carried, length-append (wire_bits ws) (flat_map reading_bits m.carried))
