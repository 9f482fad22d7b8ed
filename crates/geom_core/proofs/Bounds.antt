-- Sizes within a row, and the rows that a write covers one after the other.
use Rattle.std.proofs.Common.{◌≡◌, ℕ, zero, suc, ◌+◌, ◌-◌, ◌*◌, ◌/◌, ◌%◌, ◌^◌, ◌≤◌, ◌<◌, Bool, true, ◌&&◌, List, refl, ap, ◌∙◌, arith, add-one}
use Rattle.std.proofs.Math.Nat.{pow-le-pow_right}
use Rattle.std.proofs.Math.Pow.{pow_mono}
use Rattle.std.proofs.lemmas.Nat.{mul-le, one_shl, pow_pos}
use Rattle.std.specs.List.{list_all, range_with_len}

pub power_few : (k : ℕ) → k ≤ 6 → 2 ^ k ≤ 64
power_few k h = pow_mono {i = k} {j = 6} h

pub power_is : (k : ℕ) → k ≤ 6 → (1 * 2 ^ k) % 2 ^ 32 ≡ 2 ^ k
power_is k h = one_shl k 32 (omega arith)

pub power_some : (k : ℕ) → 1 ≤ 2 ^ k
power_some k = omega (arith, pow_pos k)

pub row_few : (width words : ℕ) → width ≤ 65536 → words ≤ 64 → width * words ≤ 4194304
row_few width words h k = mul-le width words 65536 64 h k

pub row_some : (width words : ℕ) → 1 ≤ width → 1 ≤ words → 1 ≤ width * words
row_some width words h k = mul-le 1 1 width words h k

pub word_few : (word width : ℕ) → word ≤ 64 → width ≤ 65536 → word * width ≤ 4194304
word_few word width h k = mul-le word width 64 65536 h k

pub rows_few : (row words : ℕ) → row ≤ 64 → words ≤ 64 → row * words ≤ 4096
rows_few row words h k = mul-le row words 64 64 h k

pub rows_step : (test : ℕ → Bool) (row rows : ℕ) → row < rows → list_all test (range_with_len row (rows - row)) ≡ (test row && list_all test (range_with_len (row + 1) (rows - (row + 1))))
rows_step test row rows h =
    let e : rows - row ≡ suc (rows - (row + 1)) = omega arith in
    ap (λ n. list_all test (range_with_len row n)) e

pub rows_end : (test : ℕ → Bool) (row rows : ℕ) → rows ≤ row → list_all test (range_with_len row (rows - row)) ≡ true
rows_end test row rows h =
    let e : rows - row ≡ 0 = omega arith in
    ap (λ n. list_all test (range_with_len row n)) e
