use Rattle.std.proofs.Common.{◌≡◌, length}
use Rattle.rtlil_lex.specs.declared.string.Place.TheVariants as place
use Rattle.rtlil_lex.specs.Lex.{string_at, with_front}
use Rattle.rtlil_lex.proofs.string.string_at.Given as goal

abbrev pub invariant-loop-rest : goal.invariant-loop-rest
invariant-loop-rest l = with_front l.text.items (string_at l.place l.rest) ≡ string_at place.Plain l.bytes

abbrev pub decreases-loop-rest : goal.decreases-loop-rest
decreases-loop-rest l = length l.rest
