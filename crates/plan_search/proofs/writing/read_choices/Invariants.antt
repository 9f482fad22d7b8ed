use Rattle.std.proofs.Common.{◌≡◌, map, take}
use Rattle.fit_rules.specs.Candidates.{places}
use Rattle.plan_search.proofs.writing.read_choices.Given as goal

abbrev pub invariant-loop-read : goal.invariant-loop-read
invariant-loop-read l = l.choices.items ≡ map (places l.mem l.variant l.groups) (take l.read-index l.mem.reads)
