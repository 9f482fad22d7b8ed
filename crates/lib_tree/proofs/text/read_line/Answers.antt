use Rattle.std.proofs.Common.{◌≡◌, ◌<◌, length, Some, None, sym, ◌∙◌, arith}
use Rattle.std.proofs.lemmas.Result.{err_from_is_err_and}
use Rattle.lib_tree.specs.Lex.{next}
use Rattle.lib_tree.proofs.Lines.{next_some, next_none}
use Rattle.lib_tree.proofs.ByLine.{line_ok, line_err, line_end}
use Rattle.lib_tree.proofs.text.read_line.Goals as goal

pub returns-in_err-reading-clause-read : goal.returns-in_err-reading-clause-read
returns-in_err-reading-clause-read c =
    let p = err_from_is_err_and c.from_residual-in_err-reading.result c.from_residual-in_err-reading.ensures.1 in
    let e : next c.args.line c.loop-reading.rest.now ≡ Some (c.in-Some.token, c.in-Some.after.now) = sym (rw c.in-Some.is at c.in_ok-token.ensures) in
    let n = next_some c.args.line c.loop-reading.rest.now (c.in-Some.token, c.in-Some.after.now) e in
    rw (p.1, p.2) (line_err c.loop-reading.reading c.in_err-reading.field-0.0 c.args.line c.loop-reading.last c.loop-reading.rest.now c.in-Some.after.now c.in-Some.token _ n.0 c.in_err-reading.ensures.reading c.loop-reading.invariant.same)

pub loop-reading-smaller : goal.loop-reading-smaller
loop-reading-smaller c =
    let e : next c.args.line c.loop-reading.rest.now ≡ Some (c.in-Some.token, c.in-Some.after.now) = sym (rw c.in-Some.is at c.in_ok-token.ensures) in
    (next_some c.args.line c.loop-reading.rest.now (c.in-Some.token, c.in-Some.after.now) e).1

pub loop-reading-preserved : goal.loop-reading-preserved
loop-reading-preserved c =
    let e : next c.args.line c.loop-reading.rest.now ≡ Some (c.in-Some.token, c.in-Some.after.now) = sym (rw c.in-Some.is at c.in_ok-token.ensures) in
    let n = next_some c.args.line c.loop-reading.rest.now (c.in-Some.token, c.in-Some.after.now) e in
    let shorter : length c.in-Some.after.now < length c.loop-reading.rest.now = n.1 in
    record {
      same = sym (line_ok c.loop-reading.reading c.in_ok-reading.reading c.args.line c.loop-reading.last c.loop-reading.rest.now c.in-Some.after.now c.in-Some.token n.0 c.in_ok-reading.ensures.reading) ∙ c.loop-reading.invariant.same;
      depth = omega (arith, c.in_ok-reading.ensures.depth, c.loop-reading.invariant.depth);
    }

pub returns-clause-read : goal.returns-clause-read
returns-clause-read c =
    let e : next c.args.line c.loop-reading.rest.now ≡ None = sym (rw c.in_default.is at c.in_ok-token.ensures) in
    sym c.loop-reading.invariant.same ∙ line_end c.loop-reading.reading c.args.line c.loop-reading.last c.loop-reading.rest.now (next_none c.args.line c.loop-reading.rest.now e)
