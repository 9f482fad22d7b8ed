use Rattle.std.proofs.Common.{◌≡◌, ◌∷◌, [], length, take, drop, ◌-◌, sym, ◌∙◌, arith, List, ℕ, ap}
use Rattle.std.proofs.lemmas.List.{nil_from_length}
use Rattle.lib_tree.specs.declared.lex.Class.TheVariants as class
use Rattle.lib_tree.specs.Lex.{past}
use Rattle.lib_tree.specs.Reading.{lines}
use Rattle.lib_tree.proofs.Cuts.{split_last, split_more, first_and_rest, front_length, tail_length}
use Rattle.lib_tree.proofs.text.split_line.Goals as goal

pub returns-in-empty-clause-lines : goal.returns-in-empty-clause-lines
returns-in-empty-clause-lines c =
    let e : past class.Line c.args.bytes.now ≡ [] = sym c.cut.ensures.rest ∙ nil_from_length c.cut.result.1.now (omega arith) in
    split_last c.args.bytes.now e ∙ ap (λ (f : List ℕ). f ∷ []) (sym c.cut.ensures.front)

pub returns-in-empty-clause-front : goal.returns-in-empty-clause-front
returns-in-empty-clause-front c = rw c.cut.ensures.front (front_length c.args.bytes.now)

pub returns-in-len1-up-clause-lines : goal.returns-in-len1-up-clause-lines
returns-in-len1-up-clause-lines c =
    let p = first_and_rest c.cut.result.1.now (omega arith) in
    let e : past class.Line c.args.bytes.now ≡ p.0 ∷ take (length c.cut.result.1.now - 1) (drop 1 c.cut.result.1.now) = sym c.cut.ensures.rest ∙ p.1 in
    split_more c.args.bytes.now p.0 (take (length c.cut.result.1.now - 1) (drop 1 c.cut.result.1.now)) e ∙ ap (λ (f : List ℕ). f ∷ lines (take (length c.cut.result.1.now - 1) (drop 1 c.cut.result.1.now))) (sym c.cut.ensures.front)

pub returns-in-len1-up-clause-front : goal.returns-in-len1-up-clause-front
returns-in-len1-up-clause-front c = rw c.cut.ensures.front (front_length c.args.bytes.now)

pub returns-in-len1-up-clause-tail : goal.returns-in-len1-up-clause-tail
returns-in-len1-up-clause-tail c =
    let p = first_and_rest c.cut.result.1.now (omega arith) in
    let e : past class.Line c.args.bytes.now ≡ p.0 ∷ take (length c.cut.result.1.now - 1) (drop 1 c.cut.result.1.now) = sym c.cut.ensures.rest ∙ p.1 in
    let h = tail_length c.args.bytes.now p.0 (take (length c.cut.result.1.now - 1) (drop 1 c.cut.result.1.now)) e in
    rw c.cut.ensures.front h
