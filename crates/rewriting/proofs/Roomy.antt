-- The room of a port is enough for all steps.
use Rattle.std.proofs.Common.{◌≡◌, ℕ, zero, suc, ◌+◌, ◌-◌, ◌*◌, ◌^◌, ◌≤◌, ◌⊎◌, inl, inr, Bool, true, false, refl, sym, ap, subst, arith}
use Rattle.std.specs.Prelude.{nat_le, cond}
use Rattle.std.proofs.Math.Nat.{mul_assoc, mul-le-mul_left, mul-le-mul_right}
use Rattle.std.proofs.lemmas.Nat.{pow_pos}
use Rattle.rewriting.specs.Rooms.{fold_nets, row_nets, read_nets, write_nets, port_room}

-- what rows add, against the bits of all rows: nothing for one, or there are at least two
abbrev RowsFit : ℕ → ℕ → ℕ → Type 0
RowsFit added bits all = (bits ≤ all) × (((added ≡ 0)) ⊎ ((added ≤ 4 * all) × (2 * bits ≤ all)))

rows_fit : (rows bits folded : ℕ) (one : Bool) → nat_le rows 1 ≡ one → 1 ≤ rows → folded ≤ bits → RowsFit (row_nets rows folded) bits (rows * bits)
rows_fit rows bits folded true e some h = (omega (arith, mul-le-mul_right bits some), inl (ap (λ b. cond b 0 (4 * (rows * folded))) e))
rows_fit rows bits folded false e some h =
    let two : 2 ≤ rows = grind (arith, e) in
    let less : rows * folded ≤ rows * bits = mul-le-mul_left rows h in
    let several : row_nets rows folded ≡ 4 * (rows * folded) = ap (λ b. cond b 0 (4 * (rows * folded))) e in
    (omega (arith, mul-le-mul_right bits some), inr (rw several (omega (arith, less)), omega (arith, mul-le-mul_right bits two)))

-- what a fold adds beside the bits themselves, in the bits behind it
fold_fits : (fold bits data_bits : ℕ) → data_bits ≤ bits → (62 * bits + fold_nets fold bits data_bits ≤ 62 * (2 ^ fold * bits)) × (10 * bits + fold_nets fold bits data_bits ≤ 11 * (2 ^ fold * bits))
fold_fits zero bits data_bits h = (omega arith, omega arith)
fold_fits (suc fold) bits data_bits h =
    let less : 2 ^ suc fold * data_bits ≤ 2 ^ suc fold * bits = mul-le-mul_left (2 ^ suc fold) h in
    let two : 2 ≤ 2 ^ suc fold = omega (arith, pow_pos fold) in
    let more : 2 * bits ≤ 2 ^ suc fold * bits = mul-le-mul_right bits two in
    (omega (arith, less, more), omega (arith, less, more))

read_sum : (bits met folding rows_add m all : ℕ) → met ≤ 4 * bits → 62 * bits + folding ≤ 62 * m → RowsFit rows_add m all → 5 * met + (5 * met + (16 * bits + (6 * bits + (folding + rows_add)))) ≤ 64 * all
read_sum bits met folding rows_add m all h f (r, inl e) = omega arith
read_sum bits met folding rows_add m all h f (r, inr (s, t)) = omega arith

write_sum : (bits lower folding rows_add copied m all : ℕ) → lower ≤ 3 * m → 10 * bits + folding ≤ 11 * m → copied ≤ 8 * rows_add → RowsFit rows_add m all → 4 * bits + (6 * bits + (folding + (4 * lower + copied))) ≤ 64 * all
write_sum bits lower folding rows_add copied m all h f c (r, inl e) = omega arith
write_sum bits lower folding rows_add copied m all h f c (r, inr (s, t)) = omega arith

pub room_is_enough : (writes copies fold rows bits data_bits folded : ℕ) → writes ≤ 4 → copies ≤ 8 → 1 ≤ rows → data_bits ≤ bits → folded ≤ 2 ^ fold * bits → (read_nets writes fold rows bits data_bits folded ≤ port_room fold rows bits) × (write_nets writes copies fold rows bits data_bits folded ≤ port_room fold rows bits)
room_is_enough writes copies fold rows bits data_bits folded few some_copies some data_fits fits =
    let m = 2 ^ fold * bits in
    let all : rows * 2 ^ fold * bits ≡ rows * m = mul_assoc rows (2 ^ fold) bits in
    let met : bits * writes ≤ 4 * bits = omega (arith, mul-le-mul_left bits few) in
    let lower : folded * (writes - 1) ≤ 3 * m = omega (arith, mul-le-mul_left folded (let three : writes - 1 ≤ 3 = omega arith in three), fits) in
    let folds = fold_fits fold bits data_bits data_fits in
    let in_rows = rows_fit rows m folded (nat_le rows 1) refl some fits in
    let copied : copies * row_nets rows folded ≤ 8 * row_nets rows folded = mul-le-mul_right (row_nets rows folded) some_copies in (
      subst (λ n. read_nets writes fold rows bits data_bits folded ≤ 64 * n) (sym all) (read_sum bits (bits * writes) (fold_nets fold bits data_bits) (row_nets rows folded) m (rows * m) met folds.0 in_rows),
      subst (λ n. write_nets writes copies fold rows bits data_bits folded ≤ 64 * n) (sym all) (write_sum bits (folded * (writes - 1)) (fold_nets fold bits data_bits) (row_nets rows folded) (copies * row_nets rows folded) m (rows * m) lower folds.1 copied in_rows),
    )
