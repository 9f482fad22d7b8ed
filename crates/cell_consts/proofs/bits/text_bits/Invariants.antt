use Rattle.std.proofs.Common.{◌≡◌, ◌++◌, take}
use Rattle.cell_consts.specs.Consts.{text_bits}
use Rattle.cell_consts.proofs.bits.text_bits.Given as goal

abbrev pub invariant-loop-place : goal.invariant-loop-place
invariant-loop-place l = l.bits.items ++ text_bits (take l.place l.text) ≡ text_bits l.text
