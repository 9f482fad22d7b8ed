-- Bounds on numbers of rows, cells and nets.
use Rattle.std.proofs.Common.{◌≡◌, ℕ, zero, suc, ◌+◌, ◌-◌, ◌*◌, ◌/◌, ◌%◌, ◌^◌, ◌≤◌, ◌<◌, min, sym, ap, subst, ◌∙◌, arith}
use Rattle.std.proofs.Math.Nat.{div-add-mod', mul_assoc, mul_comm, mul-le-mul_left, mul-le-mul_right, suc-mul}
use Rattle.std.proofs.lemmas.Grind.{div_ceil_times}
use Rattle.std.proofs.Math.Pow.{pow_mono}
use Rattle.std.proofs.lemmas.Nat.{mul-le, pow_pos}

pub power_few : (k : ℕ) → k ≤ 20 → 2 ^ k ≤ 1048576
power_few k h = pow_mono {i = k} {j = 20} h

pub small_power_few : (k : ℕ) → k ≤ 6 → 2 ^ k ≤ 64
small_power_few k h = pow_mono {i = k} {j = 6} h

pub power_some : (k : ℕ) → 1 ≤ 2 ^ k
power_some k = omega (arith, pow_pos k)

pub row_words_few : (a b : ℕ) → a ≤ 1048576 → b ≤ 64 → a * b ≤ 67108864
row_words_few a b h k = mul-le a b 1048576 64 h k

pub row_words_some : (a b : ℕ) → 1 ≤ a → 1 ≤ b → 0 < a * b
row_words_some a b h k = omega (arith, mul-le 1 1 a b h k)

div_few : (n m : ℕ) → 1 ≤ m → n / m + min 1 (n % m) ≤ n
div_few n m some = grind (arith, div-add-mod' n m)

pub rows_few : (n m : ℕ) → n ≤ 1048576 → 0 < m → n / m + min 1 (n % m) ≤ 1048576
rows_few n m h some = omega (arith, div_few n m some, h)

pub memory_bits_few : (size width : ℕ) → size ≤ 1048576 → width ≤ 65536 → size * width ≤ 68719476736
memory_bits_few size width h k = mul-le size width 1048576 65536 h k

pub row_bits_few : (width words : ℕ) → width ≤ 65536 → words ≤ 64 → width * words ≤ 4194304
row_bits_few width words h k = mul-le width words 65536 64 h k

pub row_part_few : (rows words : ℕ) → rows ≤ 1048576 → words ≤ 64 → rows * words ≤ 67108864
row_part_few rows words h k = mul-le rows words 1048576 64 h k

pub port_nets_few : (words bits : ℕ) → words ≤ 67108864 → bits ≤ 4194336 → words * bits ≤ 281477124194304
port_nets_few words bits h k = mul-le words bits 67108864 4194336 h k

pub cell_bits_few : (width names : ℕ) → width ≤ 1024 → names ≤ 32 → width * names ≤ 32768
cell_bits_few width names h k = mul-le width names 1024 32 h k

pub cells_bits_few : (cells bits : ℕ) → cells ≤ 4096 → bits ≤ 32768 → cells * bits ≤ 134217728
cells_bits_few cells bits h k = mul-le cells bits 4096 32768 h k

pub part_few : (copies rows : ℕ) → copies ≤ 8 → rows ≤ 1048576 → copies * rows ≤ 8388608
part_few copies rows h k = mul-le copies rows 8 1048576 h k

pub cells_less : (part columns : ℕ) → part ≤ 8388608 → columns ≤ 4194304 → part * columns ≤ 35184372088832
cells_less part columns h k = mul-le part columns 8388608 4194304 h k

pub power_product_few : (a b k f : ℕ) → a ≡ 2 ^ k → b ≡ 2 ^ f → k ≤ 20 → f ≤ 6 → a * b ≤ 67108864
power_product_few a b k f p q h i = row_words_few a b (omega (arith, p, power_few k h)) (omega (arith, q, small_power_few f i))

pub columns_few : (columns width fold : ℕ) → columns ≤ width * 2 ^ fold → width ≤ 65536 → fold ≤ 6 → columns ≤ 4194304
columns_few columns width fold h w f = omega (arith, h, row_bits_few width (2 ^ fold) w (small_power_few fold f))

all_but_last : (rows words size : ℕ) → rows * words < size + words → (rows - 1) * words ≤ size
all_but_last zero words size h = omega arith
all_but_last (suc rows) words size h =
    let e : suc rows - 1 ≡ rows = omega arith in
    rw e (omega (arith, h, suc-mul rows words))

-- all rows but the last are full
pub full_rows : (size words power : ℕ) → 1 ≤ words → 1 ≤ power → (size / (words * power) + min 1 (size % (words * power)) - 1) * power ≤ size
full_rows size words power some any =
    let rows = size / (words * power) + min 1 (size % (words * power)) in
    let some_here : 0 < words * power = row_words_some words power some any in
    let all : rows * (words * power) < size + words * power = (div_ceil_times size (words * power) some_here).1 in
    let less : (rows - 1) * power ≤ (rows - 1) * (words * power) = mul-le-mul_left (rows - 1) (omega (arith, mul-le 1 power words power some (omega arith))) in
    omega (arith, less, all_but_last rows (words * power) size all)

moved : (rows width power size : ℕ) → rows * power ≤ size → rows * (width * power) ≤ size * width
moved rows width power size h =
    let swap : rows * (width * power) ≡ rows * power * width = ap (λ n. rows * n) (mul_comm width power) ∙ sym (mul_assoc rows power width) in
    subst (λ n. n ≤ size * width) (sym swap) (mul-le-mul_right width h)

one_more : (rows bits : ℕ) → (rows - 1) * bits ≤ 8388608 → bits ≤ 4194304 → rows * bits ≤ 12582912
one_more zero bits h k = omega arith
one_more (suc rows) bits h k =
    let e : suc rows - 1 ≡ rows = omega arith in
    let before : rows * bits ≤ 8388608 = rw e at h in
    omega (arith, before, k, suc-mul rows bits)

-- the cells of one copy have little more bits than the memory
pub cells_few : (copies rows columns size width power : ℕ) → copies ≤ 8 → (rows - 1) * power ≤ size → columns ≤ width * power → size * width ≤ 8388608 → width * power ≤ 4194304 → copies * rows * columns ≤ 100663296
cells_few copies rows columns size width power few full within bits row =
    let before : (rows - 1) * (width * power) ≤ size * width = moved (rows - 1) width power size full in
    let all : rows * (width * power) ≤ 12582912 = one_more rows (width * power) (omega (arith, before, bits)) row in
    let here : rows * columns ≤ 12582912 = omega (arith, all, mul-le-mul_left rows within) in
    rw mul_assoc (mul-le copies (rows * columns) 8 12582912 few here)
