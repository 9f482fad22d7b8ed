use Rattle.std.proofs.Common.{◌≡◌, ℕ, nat_lt}
use Rattle.row_store.specs.Limbs.{bit_in}
use Rattle.row_store.proofs.rows.lanes_below.Given as goal

abbrev pub invariant-loop-place : goal.invariant-loop-place
invariant-loop-place g l = (k : ℕ) → bit_in l.lanes k ≡ nat_lt k l.place
