use Rattle.std.proofs.Common.{◌≡◌, ◌+◌, length}
use Rattle.net_edit.specs.Names.{underscores}
use Rattle.net_edit.proofs.naming.underscores.Given as goal

abbrev pub invariant-loop-rest : goal.invariant-loop-rest
invariant-loop-rest l = record {
  value : l.count + underscores l.rest ≡ underscores l.text;
  few : l.count + length l.rest ≡ length l.text;
}

abbrev pub decreases-loop-rest : goal.decreases-loop-rest
decreases-loop-rest l = length l.rest
