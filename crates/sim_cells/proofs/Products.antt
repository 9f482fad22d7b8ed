-- Products of the sizes of memories.
use Rattle.std.proofs.Common.{ℕ, ◌+◌, ◌*◌, ◌^◌, ◌<◌, ◌≤◌, arith}
use Rattle.std.proofs.Math.Pow.{pow_mono}
use Rattle.std.proofs.lemmas.Nat.{mul-le}

pub address_bits : (n bits width : ℕ) → n < 2 ^ bits → bits ≤ 32 → width ≤ 65536 → n * width ≤ 2 ^ 48
address_bits n bits width h l w =
    let low : 2 ^ bits ≤ 2 ^ 32 = pow_mono {i = bits} {j = 32} l in
    let p = mul-le n width (2 ^ 32) 65536 (omega (arith, h, low)) w in
    omega (arith, p)

pub offset_bits : (offset size width : ℕ) → offset + size ≤ 1048576 → width ≤ 65536 → offset * width ≤ 2 ^ 36
offset_bits offset size width h w =
    let p = mul-le offset width 1048576 65536 (omega (arith, h)) w in
    omega (arith, p)

pub group_bits : (width wide : ℕ) → width ≤ 65536 → wide ≤ 6 → width * 2 ^ wide ≤ 2 ^ 22
group_bits width wide w h =
    let low : 2 ^ wide ≤ 2 ^ 6 = pow_mono {i = wide} {j = 6} h in
    let p = mul-le width (2 ^ wide) 65536 64 w (omega (arith, low)) in
    omega (arith, p)
