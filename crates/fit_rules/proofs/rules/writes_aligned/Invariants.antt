use Rattle.std.proofs.Common.{◌≡◌, drop}
use Rattle.std.specs.List.{list_all}
use Rattle.fit_rules.specs.Rules.{is_multiple}
use Rattle.fit_rules.proofs.rules.writes_aligned.Given as goal

abbrev pub invariant-loop-write : goal.invariant-loop-write
invariant-loop-write l = list_all (λ w. is_multiple l.mem.offset w.wide) (drop l.write-index l.mem.writes) ≡ list_all (λ w. is_multiple l.mem.offset w.wide) l.mem.writes
