use Rattle.std.proofs.Common.{◌≡◌, ℕ, ◌<◌}
use Rattle.net_same.specs.Nets.{sent, told_back}
use Rattle.net_same.proofs.tables.Tables.are_told.Given as goal

abbrev pub invariant-loop-old : goal.invariant-loop-old
invariant-loop-old l = (n : ℕ) → n < l.old → told_back l.self (sent l.self n) ≡ n
