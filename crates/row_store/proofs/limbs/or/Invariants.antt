use Rattle.std.proofs.Common.{◌≡◌, ℕ, ◌<◌, length, get_or, bit_or}
use Rattle.row_store.proofs.limbs.or.Given as goal

abbrev pub invariant-loop-at : goal.invariant-loop-at
invariant-loop-at g l = (length l.out ≡ g.row.LIMBS) × ((j : ℕ) → j < l.at → get_or l.out j 0 ≡ bit_or (get_or l.a j 0) (get_or l.b j 0))
