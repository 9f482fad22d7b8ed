use Rattle.std.proofs.Common.{◌≡◌, ◌++◌, drop}
use Rattle.std.specs.List.{flat_map}
use Rattle.net_live.proofs.drives.push_reads.Given as goal

abbrev pub invariant-loop-read : goal.invariant-loop-read
invariant-loop-read l = l.nets.items ++ flat_map (λ r. r.out) (drop l.read-index l.reads) ≡ l.initial.nets.items ++ flat_map (λ r. r.out) l.reads
