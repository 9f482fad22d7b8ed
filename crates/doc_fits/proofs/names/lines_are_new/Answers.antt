use Rattle.std.proofs.Common.{refl}
use Rattle.std.specs.List.{flat_map}
use Rattle.doc_fits.specs.Tests.{name_of_line, lines_are_new}
use Rattle.doc_fits.proofs.Taking.{turn, stop, done}
use Rattle.doc_fits.proofs.names.lines_are_new.Goals as goal

pub returns-then-not-branch : goal.returns-then-not-branch
returns-then-not-branch c =
    stop (λ x. name_of_line c.args.kind x) (λ xs. flat_map (λ x. name_of_line c.args.kind x) xs) (λ x xs. refl) c.loop-rest.names c.loop-rest.rest.now c.line-item.result c.in-len1-up.len_at_least c.line-item.is
    c.in_ok-add_line.field-0 (lines_are_new c.args.kind c.args.lines.now) c.in_ok-add_line.ensures.new c.if-not-branch.true c.loop-rest.invariant

pub loop-rest-preserved : goal.loop-rest-preserved
loop-rest-preserved c =
    turn (λ x. name_of_line c.args.kind x) (λ xs. flat_map (λ x. name_of_line c.args.kind x) xs) (λ x xs. refl) c.loop-rest.names c.loop-rest.rest.now c.line-item.result c.in-len1-up.len_at_least c.line-item.is
    c.add_line.new.names c.in_ok-add_line.field-0 (lines_are_new c.args.kind c.args.lines.now) c.in_ok-add_line.ensures.new c.in_ok-add_line.ensures.names c.if-not-branch.false c.loop-rest.invariant

pub returns : goal.returns
returns c = done (λ xs. flat_map (λ x. name_of_line c.args.kind x) xs) c.loop-rest.names c.loop-rest.rest.now (lines_are_new c.args.kind c.args.lines.now) refl c.in_default.len_below c.loop-rest.invariant
