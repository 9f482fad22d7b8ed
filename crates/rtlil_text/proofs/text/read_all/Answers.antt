use Rattle.std.proofs.Common.{◌≡◌, ◌∷◌, [], List, Result, sym, ap, subst, ◌∙◌, arith}
use Rattle.std.proofs.lemmas.Result.{err_from_is_err_and}
use Rattle.rtlil_lex.specs.declared.token.Token.{Token}
use Rattle.rtlil_lex.specs.Lines.{lines, token_lines, BeginsWithLine}
use Rattle.rtlil_text.specs.declared.doc.Doc.{Doc}
use Rattle.rtlil_text.specs.declared.fault.TextFault.{TextFault}
use Rattle.rtlil_text.specs.ReadState.{start}
use Rattle.rtlil_text.specs.ReadText.{at_end, read_lines, GivesDoc}
use Rattle.rtlil_text.specs.Text.{limited_lines}
use Rattle.rtlil_text.proofs.Reading.{read_last, read_more, fails}
use Rattle.rtlil_text.proofs.text.read_all.Goals as goal

pub returns-in_default : goal.returns-in_default
returns-in_default c =
    let whole : lines c.loop-found.rest.now ≡ c.split_line.result.0.now ∷ [] = rw c.in_default.is at c.split_line.ensures in
    let same : at_end 64 c.loop-found.state c.loop-found.line c.loop-found.last c.in_ok-found.found.items ≡ read_lines 64 start 1 1 (limited_lines (token_lines c.args.bytes.now)) =
    ap (λ (ts : List Token). at_end 64 c.loop-found.state c.loop-found.line c.loop-found.last ts) c.in_ok-found.ensures.ok
    ∙ sym (read_last c.loop-found.state c.loop-found.line c.loop-found.last c.loop-found.rest.now c.split_line.result.0.now whole)
    ∙ c.loop-found.invariant.so_far in
    subst (λ (x : Result Doc TextFault). GivesDoc c.at_end.result x) same c.at_end.ensures

pub returns-in_err-state : goal.returns-in_err-state
returns-in_err-state c =
    let p = err_from_is_err_and c.from_residual-in_err-state.result c.from_residual-in_err-state.ensures.1 in
    let s : BeginsWithLine c.loop-found.rest.now c.split_line.result.0.now c.in-Some.tail.now = rw c.in-Some.is at c.split_line.ensures in
    rw (p.1, p.2) (fails c.loop-found.state c.loop-found.line c.loop-found.last c.loop-found.rest.now c.split_line.result.0.now c.in-Some.tail.now c.in_ok-found.found.items c.in_err-state.field-0.0 (read_lines 64 start 1 1 (limited_lines (token_lines c.args.bytes.now))) s c.in_ok-found.ensures.ok c.in_err-state.ensures c.loop-found.invariant.so_far)

pub loop-found-preserved : goal.loop-found-preserved
loop-found-preserved c =
    let s : BeginsWithLine c.loop-found.rest.now c.split_line.result.0.now c.in-Some.tail.now = rw c.in-Some.is at c.split_line.ensures in
    let more = read_more c.loop-found.state c.in_ok-state.state c.loop-found.line c.loop-found.last c.loop-found.rest.now c.split_line.result.0.now c.in-Some.tail.now c.in_ok-found.found.items s c.in_ok-found.ensures.ok c.in_ok-state.ensures in
    record {
      so_far = rw (c.last_line-last.ensures, c.as_slice.ensures.value) (sym more ∙ c.loop-found.invariant.so_far);
      fits = omega (arith, s.shorter, c.loop-found.invariant.fits);
    }
