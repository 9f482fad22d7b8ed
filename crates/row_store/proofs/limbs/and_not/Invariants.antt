use Rattle.std.proofs.Common.{◌≡◌, ℕ, ◌<◌, ◌^◌, length, get_or, bit_and}
use Rattle.std.specs.Int.{bit_not, w64}
use Rattle.row_store.proofs.limbs.and_not.Given as goal

abbrev pub invariant-loop-at : goal.invariant-loop-at
invariant-loop-at g l = (length l.out ≡ g.row.LIMBS) × ((j : ℕ) → j < l.at → get_or l.out j 0 ≡ bit_and (get_or l.a j 0) (bit_not w64 (get_or l.b j 0))) × ((j : ℕ) → j < l.at → get_or l.b j 0 < 2 ^ 64)
