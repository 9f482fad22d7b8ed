use Rattle.std.proofs.Common.{◌≡◌, ℕ, ◌&&◌, nat_lt}
use Rattle.lib_core.specs.Rams.{tri_at}
use Rattle.row_store.specs.Limbs.{bit_in}
use Rattle.row_store.specs.Rows.{is_one, is_defined}
use Rattle.row_store.proofs.rows.packed.Given as goal

abbrev pub invariant-loop-place : goal.invariant-loop-place
invariant-loop-place g l =
    ((k : ℕ) → bit_in l.values k ≡ (nat_lt k l.place && is_one (tri_at l.bits k)))
    × ((k : ℕ) → bit_in l.known k ≡ (nat_lt k l.place && is_defined (tri_at l.bits k)))
