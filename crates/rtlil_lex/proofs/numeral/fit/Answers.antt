use Rattle.std.proofs.Common.{◌∙◌, vec_len}
use Rattle.rtlil_lex.proofs.Numbers.{fitted}
use Rattle.rtlil_lex.proofs.numeral.fit.Goals as goal

pub returns : goal.returns
returns c =
    c.from_vec.ensures ∙ c.in_ok-push_digits.ensures
    ∙ rw c.in_ok-resize.ensures.items (fitted c.args.width c.saturating_sub-missing.result c.saturating_sub-surplus.result (vec_len c.in_ok-fitted.fitted) c.args.digits.now c.filler.result c.in_ok-fitted.fitted.items c.in_ok-fitted.ensures.items c.in_ok-fitted.ensures.len c.saturating_sub-missing.ensures c.saturating_sub-surplus.ensures c.filler.ensures)
