use Rattle.std.proofs.Common.{◌≡◌, length, ◌<◌, ◌^◌}
use Rattle.lib_tree.specs.Lex.{number_from}
use Rattle.lib_tree.proofs.lex.number_in.Given as goal

abbrev pub invariant-loop-rest : goal.invariant-loop-rest
invariant-loop-rest l = (number_from l.number l.rest ≡ number_from 0 l.digits) × (l.number < 2 ^ 32)

abbrev pub decreases-loop-rest : goal.decreases-loop-rest
decreases-loop-rest l = length l.rest
