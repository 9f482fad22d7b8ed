use Rattle.std.proofs.Common.{sym, ◌∙◌, append_assoc, append-nil, refl}
use Rattle.rtlil_lex.specs.Lex.{next}
use Rattle.rtlil_lex.proofs.Steps.{limited_some, limited_none}
use Rattle.rtlil_lex.proofs.lex.read_tokens.Goals as goal

pub loop-found-smaller : goal.loop-found-smaller
loop-found-smaller c = (limited_some c.loop-found.rest.now c.in-Some.token c.in-Some.after.now (next c.loop-found.rest.now) (sym (rw c.in-Some.is at c.in_ok-token.ensures)) refl).1

pub loop-found-preserved : goal.loop-found-preserved
loop-found-preserved c =
    let more = (limited_some c.loop-found.rest.now c.in-Some.token c.in-Some.after.now (next c.loop-found.rest.now) (sym (rw c.in-Some.is at c.in_ok-token.ensures)) refl).0 in
    rw (c.in_ok-push.ensures.items, append_assoc) (rw more at c.loop-found.invariant)

pub returns : goal.returns
returns c =
    let none = limited_none c.loop-found.rest.now (next c.loop-found.rest.now) (sym (rw c.in_default.is at c.in_ok-token.ensures)) refl in
    sym (append-nil c.loop-found.found.items) ∙ rw none at c.loop-found.invariant
