use Rattle.std.proofs.Common.{◌≡◌, ◌∷◌, [], ◌≤◌, ◌+◌, length, sym, ◌∙◌, arith}
use Rattle.std.proofs.lemmas.Result.{err_from_is_err_and}
use Rattle.lib_tree.specs.Reading.{lines, read}
use Rattle.lib_tree.proofs.ByLine.{finish_gives, lines_err, lines_ok, no_lines}
use Rattle.lib_tree.proofs.text.read.Goals as goal

pub loop-read-preserved : goal.loop-read-preserved
loop-read-preserved c =
    let e : lines c.loop-read.rest.now ≡ c.split_line.result.0.now ∷ lines c.in-Some.tail.now = rw c.in-Some.is at c.split_line.ensures.lines in
    let shorter : length c.in-Some.tail.now + length c.split_line.result.0.now + 1 ≤ length c.loop-read.rest.now = rw c.in-Some.is at c.split_line.ensures.tail in
    record {
      same = sym (lines_ok c.loop-read.reading c.in_ok-read.read c.loop-read.line c.loop-read.last c.loop-read.rest.now c.split_line.result.0.now (lines c.in-Some.tail.now) e c.in_ok-read.ensures.read) ∙ c.loop-read.invariant.same;
      line = omega (arith, c.loop-read.invariant.line);
      depth = omega (arith, c.loop-read.invariant.depth, c.in_ok-read.ensures.depth);
    }

pub returns-in_err-read : goal.returns-in_err-read
returns-in_err-read c =
    let p = err_from_is_err_and c.from_residual.result c.from_residual.ensures.1 in
    rw (p.1, p.2) (lines_err c.loop-read.reading c.in_err-read.field-0.0 c.loop-read.line c.loop-read.last c.loop-read.rest.now c.split_line.result.0.now _ (read c.args.bytes.now) c.split_line.ensures.lines c.in_err-read.ensures.read c.loop-read.invariant.same)

pub returns-in_default : goal.returns-in_default
returns-in_default c =
    let e : lines c.loop-read.rest.now ≡ c.split_line.result.0.now ∷ [] = rw c.in_default.is at c.split_line.ensures.lines in
    let same = sym (lines_ok c.loop-read.reading c.in_ok-read.read c.loop-read.line c.loop-read.last c.loop-read.rest.now c.split_line.result.0.now [] e c.in_ok-read.ensures.read) ∙ c.loop-read.invariant.same in
    finish_gives c.in_ok-read.read.reading c.in_ok-read.read.last c.finish.result (read c.args.bytes.now) c.finish.ensures (sym (no_lines c.in_ok-read.read.reading (c.loop-read.line + 1) c.in_ok-read.read.last) ∙ same)
