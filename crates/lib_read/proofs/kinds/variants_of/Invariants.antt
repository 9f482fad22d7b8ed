use Rattle.std.proofs.Common.{◌≡◌, ◌++◌, length, false}
use Rattle.lib_judge.specs.Faults.{any_many, judges_of}
use Rattle.lib_read.specs.Expansion.{variants_of}
use Rattle.lib_read.proofs.kinds.variants_of.Given as goal

abbrev pub invariant-loop-rest : goal.invariant-loop-rest
invariant-loop-rest l = record {
  same : l.variants.items ++ variants_of l.ram l.rest ≡ variants_of l.ram l.rows;
  few : any_many (judges_of l.ram l.rest) ≡ false;
}

abbrev pub decreases-loop-rest : goal.decreases-loop-rest
decreases-loop-rest l = length l.rest
