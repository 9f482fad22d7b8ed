-- Reads of values, pins and given bits at a place.
use Rattle.std.proofs.Common.{◌≡◌, ℕ, zero, suc, ◌<◌, ◌≤◌, Bool, false, List, [], ◌∷◌, length, get_or, refl, ap, arith}
use Rattle.lib_core.specs.declared.library.Tri.{Tri}
use Rattle.lib_core.specs.declared.library.Tri.TheVariants.{Any}
use Rattle.lib_core.specs.Rams.{tri_at}
use Rattle.net_core.specs.declared.bits.Bit.{Bit}
use Rattle.net_core.specs.Values.{Valuation, value_of, values_of, bit_at}

pub net_read : (xs : List Bool) (k : ℕ) (x : Bool) → k < length xs → x ≡ get_or xs k x → x ≡ bit_at xs k
net_read [] k x h e = absurd (omega arith)
net_read (y ∷ ys) zero x h e = e
net_read (y ∷ ys) (suc k) x h e = net_read ys k x (omega arith) e

pub net_past : (xs : List Bool) (k : ℕ) → length xs ≤ k → bit_at xs k ≡ false
net_past [] k h = refl
net_past (y ∷ ys) zero h = absurd (omega arith)
net_past (y ∷ ys) (suc k) h = net_past ys k (omega arith)

pub pin_read : (v : Valuation) (xs : List Bit) (k : ℕ) (x : Bit) → k < length xs → x ≡ get_or xs k x → value_of v x ≡ bit_at (values_of v xs) k
pin_read v [] k x h e = absurd (omega arith)
pin_read v (y ∷ ys) zero x h e = ap (value_of v) e
pin_read v (y ∷ ys) (suc k) x h e = pin_read v ys k x (omega arith) e

pub pin_past : (v : Valuation) (xs : List Bit) (k : ℕ) → length xs ≤ k → bit_at (values_of v xs) k ≡ false
pin_past v [] k h = refl
pin_past v (y ∷ ys) zero h = absurd (omega arith)
pin_past v (y ∷ ys) (suc k) h = pin_past v ys k (omega arith)

pub tri_read : (xs : List Tri) (k : ℕ) (x : Tri) → k < length xs → x ≡ get_or xs k x → x ≡ tri_at xs k
tri_read [] k x h e = absurd (omega arith)
tri_read (y ∷ ys) zero x h e = e
tri_read (y ∷ ys) (suc k) x h e = tri_read ys k x (omega arith) e

pub tri_past : (xs : List Tri) (k : ℕ) → length xs ≤ k → tri_at xs k ≡ Any
tri_past [] k h = refl
tri_past (y ∷ ys) zero h = absurd (omega arith)
tri_past (y ∷ ys) (suc k) h = tri_past ys k (omega arith)
