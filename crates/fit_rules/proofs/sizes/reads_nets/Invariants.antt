use Rattle.std.proofs.Common.{◌≡◌, ◌+◌, ◌*◌, ◌≤◌, drop}
use Rattle.std.specs.List.{sum_by}
use Rattle.fit_rules.specs.Rules.{port_nets}
use Rattle.fit_rules.proofs.sizes.reads_nets.Given as goal

abbrev pub invariant-loop-read : goal.invariant-loop-read
invariant-loop-read l = (l.nets ≤ 281477124194304 * l.read-index) × (l.nets + sum_by (λ r. port_nets l.mem l.variant l.spot r.wide) (drop l.read-index l.mem.reads) ≡ sum_by (λ r. port_nets l.mem l.variant l.spot r.wide) l.mem.reads)
