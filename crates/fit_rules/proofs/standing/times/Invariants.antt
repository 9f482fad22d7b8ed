use Rattle.std.proofs.Common.{◌≡◌, ◌+◌, ◌≤◌, drop, count_by, nat_eq}
use Rattle.fit_rules.proofs.standing.times.Given as goal

abbrev pub invariant-loop-item : goal.invariant-loop-item
invariant-loop-item l = (l.times ≤ l.item-index) × (l.times + count_by (nat_eq l.number) (drop l.item-index l.numbers) ≡ count_by (nat_eq l.number) l.numbers)
