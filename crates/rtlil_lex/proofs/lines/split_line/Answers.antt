use Rattle.std.proofs.Common.{◌≡◌, ◌∷◌, [], length, take, drop, ◌-◌, sym, ◌∙◌, arith, List, ℕ, subst}
use Rattle.std.proofs.lemmas.List.{nil_from_length}
use Rattle.rtlil_lex.specs.declared.bytes.Class.TheVariants as class
use Rattle.rtlil_lex.specs.Lex.{past}
use Rattle.rtlil_lex.specs.Lines.{BeginsWithLine}
use Rattle.rtlil_lex.proofs.TextLines.{split_last, split_more, first_and_rest}
use Rattle.rtlil_lex.proofs.lines.split_line.Goals as goal

pub returns-in-empty : goal.returns-in-empty
returns-in-empty c =
    let e : past class.OnLine c.args.bytes.now ≡ [] = sym c.cut.ensures.rest ∙ nil_from_length c.cut.result.1.now (omega arith) in
    rw c.cut.ensures.front (split_last c.args.bytes.now e)

pub returns-in-len1-up : goal.returns-in-len1-up
returns-in-len1-up c =
    let p = first_and_rest c.cut.result.1.now (omega arith) in
    let e : past class.OnLine c.args.bytes.now ≡ p.0 ∷ take (length c.cut.result.1.now - 1) (drop 1 c.cut.result.1.now) = sym c.cut.ensures.rest ∙ p.1 in
    let s = split_more c.args.bytes.now p.0 (take (length c.cut.result.1.now - 1) (drop 1 c.cut.result.1.now)) e in
    subst (λ (f : List ℕ). BeginsWithLine c.args.bytes.now f (take (length c.cut.result.1.now - 1) (drop 1 c.cut.result.1.now))) (sym c.cut.ensures.front) s
