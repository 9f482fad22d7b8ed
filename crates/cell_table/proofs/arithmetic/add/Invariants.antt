use Rattle.std.proofs.Common.{◌≡◌, ℕ, ◌+◌, ◌<◌, length}
use Rattle.net_core.specs.Values.{bit_at, nat_bit}
use Rattle.net_core.specs.Logic.{extended}
use Rattle.cell_table.proofs.Numbers.{total, added_bit, left_from}
use Rattle.cell_table.proofs.arithmetic.add.Given as goal

-- the bits so far are those of the sum, and what is left to add gives the others
abbrev pub invariant-loop-place : goal.invariant-loop-place
invariant-loop-place l =
    let sum = total l.signed l.subtract l.a l.b (length l.out) in
    ((k : ℕ) → k < l.place → bit_at l.out k ≡ nat_bit sum k)
    × ((j : ℕ) → nat_bit (left_from (extended l.signed l.a) (added_bit l.signed l.subtract l.b) l.carry l.place (length l.out)) j ≡ nat_bit sum (l.place + j))
