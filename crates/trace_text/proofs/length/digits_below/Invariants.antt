use Rattle.std.proofs.Common.{◌≡◌, ◌≤◌, ◌-◌, ◌^◌, ℕ, suc}
use Rattle.trace_text.specs.Lengths.{capped}
use Rattle.trace_text.proofs.Digits.{digits_to, sum_below}
use Rattle.trace_text.proofs.length.digits_below.Given as goal

abbrev pub invariant-loop-power : goal.invariant-loop-power
invariant-loop-power l = record {
  low : 10 ≤ l.power;
  so_far : (k : ℕ) × ((l.power ≡ 10 ^ suc k) × (l.digits ≡ capped (sum_below (digits_to k) l.limit)));
}

abbrev pub decreases-loop-power : goal.decreases-loop-power
decreases-loop-power l = l.limit - l.power
