use Rattle.std.proofs.Common.{◌≡◌, ◌+◌, ◌*◌, ◌≤◌, drop}
use Rattle.std.specs.List.{sum_by}
use Rattle.fit_rules.specs.Rules.{names_that_read}
use Rattle.fit_rules.proofs.sizes.reading_names.Given as goal

abbrev pub invariant-loop-group : goal.invariant-loop-group
invariant-loop-group l = (l.names ≤ 8 * l.group-index) × (l.names + sum_by names_that_read (drop l.group-index l.variant.groups) ≡ sum_by names_that_read l.variant.groups)
