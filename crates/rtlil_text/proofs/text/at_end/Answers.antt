use Rattle.std.proofs.Common.{◌≡◌, false, length, sym, ap, ◌∙◌, inr, List}
use Rattle.std.specs.Prelude.{◌==◌}
use Rattle.rtlil_lex.specs.declared.token.Token.{Token}
use Rattle.rtlil_text.proofs.Reading.{ends_wrong}
use Rattle.rtlil_text.proofs.text.at_end.Goals as goal

pub returns : goal.returns
returns c =
    let some : (length c.args.tokens.items == 0) ≡ false = ap (λ (ts : List Token). length ts == 0) (sym c.as_slice.ensures.value) ∙ sym c.is_empty.ensures ∙ c.if-is_empty.false in
    inr (rw c.fault.ensures (ends_wrong c.args.state c.in_ok-_state._state c.args.line c.args.last c.args.tokens.items some c.in_ok-_state.ensures))
