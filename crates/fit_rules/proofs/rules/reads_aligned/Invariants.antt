use Rattle.std.proofs.Common.{◌≡◌, drop}
use Rattle.std.specs.List.{list_all}
use Rattle.fit_rules.specs.Rules.{is_multiple}
use Rattle.fit_rules.proofs.rules.reads_aligned.Given as goal

abbrev pub invariant-loop-read : goal.invariant-loop-read
invariant-loop-read l = list_all (λ r. is_multiple l.mem.offset r.wide) (drop l.read-index l.mem.reads) ≡ list_all (λ r. is_multiple l.mem.offset r.wide) l.mem.reads
