use Rattle.std.proofs.Common.{◌≡◌, ◌+◌, ◌*◌, ◌≤◌, drop}
use Rattle.std.specs.List.{sum_by}
use Rattle.fit_rules.specs.Rules.{port_nets}
use Rattle.fit_rules.proofs.sizes.writes_nets.Given as goal

abbrev pub invariant-loop-write : goal.invariant-loop-write
invariant-loop-write l = (l.nets ≤ 281477124194304 * l.write-index) × (l.nets + sum_by (λ w. port_nets l.mem l.variant l.spot w.wide) (drop l.write-index l.mem.writes) ≡ sum_by (λ w. port_nets l.mem l.variant l.spot w.wide) l.mem.writes)
