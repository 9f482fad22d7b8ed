use Rattle.std.proofs.Common.{◌≡◌, ◌≤◌, ◌+◌, length}
use Rattle.lib_judge.specs.Raw.{block_length}
use Rattle.lib_judge.proofs.raw.block_length.Given as goal

abbrev pub invariant-loop-rest : goal.invariant-loop-rest
invariant-loop-rest l = record {
  same : l.count + block_length l.depth l.rest ≡ block_length 0 l.statements;
  depth : l.depth + length l.rest ≤ length l.statements;
  count : l.count + length l.rest ≡ length l.statements;
}

abbrev pub decreases-loop-rest : goal.decreases-loop-rest
decreases-loop-rest l = length l.rest
