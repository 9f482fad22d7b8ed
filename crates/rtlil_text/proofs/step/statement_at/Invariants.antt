use Rattle.std.proofs.Common.{◌≡◌}
use Rattle.std.specs.Vec.Iter.{into_iter_items}
use Rattle.rtlil_text.specs.Read.{◌>>=◌, steps}
use Rattle.rtlil_text.specs.ReadLine.{step, finish, statement_at}
use Rattle.rtlil_text.proofs.step.statement_at.Given as goal

abbrev pub invariant-loop-token : goal.invariant-loop-token
invariant-loop-token l = (steps (step 64 l.state) l.place (into_iter_items l.token-iterator) >>= λ p. finish p) ≡ statement_at 64 l.state l.fn.tokens.items
