-- Bounds on products and powers.
use Rattle.std.proofs.Common.{◌≡◌, ℕ, ◌+◌, ◌*◌, ◌%◌, ◌^◌, ◌≤◌, ◌<◌, List, ◌∷◌, arith}
use Rattle.std.specs.List.{sum_by}
use Rattle.std.proofs.Math.Pow.{pow_mono}
use Rattle.std.proofs.lemmas.List.Sums.{sum_by-cons}
use Rattle.std.proofs.lemmas.Nat.{mul-le, one_shl}
use Rattle.net_core.specs.declared.mems.RdPort.{RdPort}
use Rattle.net_core.specs.declared.mems.WrPort.{WrPort}

pub bits_few : (size width : ℕ) → size < 2 ^ 32 → width < 2 ^ 32 → size * width < 2 ^ 64
bits_few size width h k =
    let few = mul-le size width 4294967295 4294967295 (omega (arith, h)) (omega (arith, k)) in
    omega (arith, few)

pub data_few : (width words : ℕ) → width < 2 ^ 32 → words ≤ 64 → width * words < 2 ^ 64
data_few width words h k =
    let few = mul-le width words 4294967295 64 (omega (arith, h)) k in
    omega (arith, few)

pub small_power : (k : ℕ) → k ≤ 6 → 2 ^ k ≤ 64
small_power k h = pow_mono {i = k} {j = 6} h

pub high_power : (k : ℕ) → 6 < k → 64 < 2 ^ k
high_power k h =
    let much = pow_mono {i = 7} {j = k} h in
    omega (arith, much)

pub power_is : (k : ℕ) → k ≤ 6 → (1 * 2 ^ k) % 2 ^ 32 ≡ 2 ^ k
power_is k h = one_shl k 32 (omega arith)

-- the words of one more port
pub read_words_more : (r : RdPort) (rs : List RdPort) → sum_by (λ (x : RdPort). 2 ^ x.wide) (r ∷ rs) ≡ 2 ^ r.wide + sum_by (λ (x : RdPort). 2 ^ x.wide) rs
read_words_more r rs = sum_by-cons (λ (x : RdPort). 2 ^ x.wide) r rs

pub write_words_more : (w : WrPort) (ws : List WrPort) → sum_by (λ (x : WrPort). 2 ^ x.wide) (w ∷ ws) ≡ 2 ^ w.wide + sum_by (λ (x : WrPort). 2 ^ x.wide) ws
write_words_more w ws = sum_by-cons (λ (x : WrPort). 2 ^ x.wide) w ws
