use Rattle.std.proofs.Common.{◌≡◌, map, take, length}
use Rattle.fit_rules.specs.Candidates.{below}
use Rattle.plan_search.proofs.writing.write_choices.Given as goal

abbrev pub invariant-loop-write : goal.invariant-loop-write
invariant-loop-write l = l.choices.items ≡ map (λ _. below (length l.variant.groups)) (take l._write-index l.mem.writes)
