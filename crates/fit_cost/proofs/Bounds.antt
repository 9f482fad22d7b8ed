-- Bounds on points.
use Rattle.std.proofs.Common.{ℕ, suc, ◌*◌, ◌^◌, ◌≤◌, Bool, true, false, cond, List, [], ◌∷◌, length, arith}
use Rattle.std.specs.Prelude.{Option, Some, None}
use Rattle.std.proofs.Math.Pow.{pow_mono}
use Rattle.std.proofs.lemmas.Nat.{mul-le}
use Rattle.net_core.specs.declared.bits.Bit.{Bit}
use Rattle.net_core.specs.Valid.{Each}
use Rattle.geom_core.specs.Runs.{begins_run, runs_after, runs_of}

pub power_few : (k : ℕ) → k ≤ 6 → 2 ^ k ≤ 64
power_few k h = pow_mono {i = k} {j = 6} h

pub row_product_few : (rows bits : ℕ) → rows ≤ 1048576 → bits ≤ 4194304 → rows * bits ≤ 4398046511104
row_product_few rows bits h k = mul-le rows bits 1048576 4194304 h k

pub fold_product_few : (words bits : ℕ) → words ≤ 64 → bits ≤ 4194304 → words * bits ≤ 268435456
fold_product_few words bits h k = mul-le words bits 64 4194304 h k

pub parts_few : (parts points : ℕ) → parts ≤ 4 → points ≤ 8388609 → parts * points ≤ 33554436
parts_few parts points h k = mul-le parts points 4 8388609 h k

pub bypasses_few : (count points : ℕ) → count ≤ 4 → points ≤ 12582944 → count * points ≤ 50331776
bypasses_few count points h k = mul-le count points 4 12582944 h k

pub lowers_few : (count points : ℕ) → count ≤ 4 → points ≤ 8388640 → count * points ≤ 33554560
lowers_few count points h k = mul-le count points 4 8388640 h k

pub row_bits_few : (rows bits : ℕ) → rows ≤ 1048576 → bits ≤ 32 → rows * bits ≤ 33554432
row_bits_few rows bits h k = mul-le rows bits 1048576 32 h k

pub fold_bits_few : (words bits : ℕ) → words ≤ 64 → bits ≤ 6 → words * bits ≤ 384
fold_bits_few words bits h k = mul-le words bits 64 6 h k

pub cell_points_few : (cost cells : ℕ) → cost ≤ 1048576 → cells ≤ 100663296 → 16 * cost * cells ≤ 1688849860263936
cell_points_few cost cells h k = mul-le (16 * cost) cells 16777216 100663296 (omega (arith, h)) k

pub register_points_few : (points bits : ℕ) → points ≤ 16 → bits ≤ 8388608 → points * bits ≤ 134217728
register_points_few points bits h k = mul-le points bits 16 8388608 h k

one_or_none : (b : Bool) → cond b 1 0 ≤ 1
one_or_none true = omega arith
one_or_none false = omega arith

runs_few_after : (before : Option Bit) (bits : List Bit) → runs_after before bits ≤ length bits
runs_few_after before [] = omega arith
runs_few_after before (b ∷ bs) = omega (arith, one_or_none (begins_run before b), runs_few_after (Some b) bs)

pub runs_few : (bits : List Bit) → runs_of bits ≤ length bits
runs_few bits = runs_few_after None bits

pub each_later : {X : Type 0} (x : X) (xs : List X) (P : X → Type 0) → Each (x ∷ xs) P → Each xs P
each_later x xs P h = λ i y e. h (suc i) y e
