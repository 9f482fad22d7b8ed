-- The number that bits are, where it is one of 32 bits.
use Rattle.std.proofs.Common.{◌≡◌, ℕ, Bool, true, false, List, Some, None}
use Rattle.std.specs.Prelude.{if◌then◌else◌}
use Rattle.lib_core.specs.declared.library.Tri.{Tri}
use Rattle.cell_consts.specs.Consts.{number_of_bits, value_of}

chosen : (b : Bool) (m n : ℕ) → (if b then Some m else None) ≡ Some n → n ≡ m
chosen true m n e = cc
chosen false m n e = absurd cc

pub value_is : (bits : List Tri) (n : ℕ) → number_of_bits bits ≡ Some n → n ≡ value_of bits
unfolding number_of_bits
value_is bits n e = chosen _ (value_of bits) n e
