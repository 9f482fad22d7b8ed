use Rattle.std.proofs.Common.{◌≡◌, ◌+◌, ◌++◌, length}
use Rattle.rewriting.specs.Reads.{mask_without}
use Rattle.emu_read.proofs.listed.mask_without.Given as goal

abbrev pub invariant-loop-rest : goal.invariant-loop-rest
invariant-loop-rest l = record {
  whole : l.mask.items ++ mask_without l.writes l.place l.rest ≡ mask_without l.writes 0 l.bits;
  counted : l.place + length l.rest ≡ length l.bits;
}

abbrev pub decreases-loop-rest : goal.decreases-loop-rest
decreases-loop-rest l = length l.rest
