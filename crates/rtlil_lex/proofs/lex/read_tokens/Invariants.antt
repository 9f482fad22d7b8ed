use Rattle.std.proofs.Common.{◌≡◌, ◌++◌, length, map}
use Rattle.rtlil_lex.specs.Lex.{tokens}
use Rattle.rtlil_lex.specs.Limits.{limited}
use Rattle.rtlil_lex.proofs.lex.read_tokens.Given as goal

abbrev pub invariant-loop-found : goal.invariant-loop-found
invariant-loop-found l = l.found.items ++ map limited (tokens l.rest) ≡ map limited (tokens l.line)

abbrev pub decreases-loop-found : goal.decreases-loop-found
decreases-loop-found l = length l.rest
